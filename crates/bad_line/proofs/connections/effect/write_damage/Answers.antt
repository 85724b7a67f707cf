use Rattle.std.proofs.Common.{◌∙◌, OnOk}
use Rattle.std.specs.Io.KnownBytes.{Appends}
use Rattle.uecp_text.specs.Written.{Begins}
use Rattle.bad_line.proofs.Saying.{damage_said}
use Rattle.bad_line.proofs.connections.effect.write_damage.Goals as goal

pub returns-clause-written : goal.returns-clause-written
returns-clause-written g c =
    damage_said (λ x. OnOk c.write_parts.result (Appends (g.W.Write.contents c.args.writer.now)
    (g.W.Write.contents c.write_parts.new.writer) x)) _ _ _ _ _ _ c.name_of.ensures
    (c.as_bytes-number.ensures.value ∙ c.format.ensures.text) (c.as_bytes-place.ensures.value ∙ c.format-2.ensures.text)
    c.write_parts.ensures.written

pub returns-clause-begun : goal.returns-clause-begun
returns-clause-begun g c =
    damage_said (λ x. Begins (g.W.Write.contents c.args.writer.now) (g.W.Write.contents c.write_parts.new.writer) x)
    _ _ _ _ _ _ c.name_of.ensures
    (c.as_bytes-number.ensures.value ∙ c.format.ensures.text) (c.as_bytes-place.ensures.value ∙ c.format-2.ensures.text)
    c.write_parts.ensures.begun
