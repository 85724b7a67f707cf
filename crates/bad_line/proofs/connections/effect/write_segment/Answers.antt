use Rattle.std.proofs.Common.{◌∙◌, OnOk}
use Rattle.std.specs.Io.KnownBytes.{Appends}
use Rattle.uecp_text.specs.Written.{Begins}
use Rattle.bad_line.proofs.Saying.{said_of}
use Rattle.bad_line.proofs.connections.effect.write_segment.Goals as goal

pub returns-clause-written : goal.returns-clause-written
returns-clause-written g c =
    said_of (λ x. OnOk c.write_words.result (Appends (g.W.Write.contents c.args.writer.now)
    (g.W.Write.contents c.write_words.new.writer) x)) c.args.before.now _ _ _ _ c.args.behind.now c.name_of.ensures
    (c.as_bytes-digits.ensures.value ∙ c.format.ensures.text) c.write_words.ensures.written

pub returns-clause-begun : goal.returns-clause-begun
returns-clause-begun g c =
    said_of (λ x. Begins (g.W.Write.contents c.args.writer.now) (g.W.Write.contents c.write_words.new.writer) x)
    c.args.before.now _ _ _ _ c.args.behind.now c.name_of.ensures
    (c.as_bytes-digits.ensures.value ∙ c.format.ensures.text) c.write_words.ensures.begun
