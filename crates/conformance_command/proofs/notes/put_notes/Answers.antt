use Rattle.std.proofs.Common.{codes, subst}
use Rattle.uecp_text.specs.Written.{Adds}
use Rattle.uecp_text.proofs.Public.{adds_then}
use Rattle.conformance.specs.Noise.{noise}
use Rattle.conformance_command.specs.Telling.{count_note}
use Rattle.conformance_command.proofs.notes.put_notes.Goals as goal

pub returns : goal.returns
returns c = adds_then c.args.output.now c.put_count.new.output c.put_count-2.new.output
    (count_note (codes "bytes left by joining:") c.args.left)
    (count_note (codes "bytes that are no part of a segment:") (noise c.args.came.now)) c.put_count.ensures
    (subst (λ n. Adds c.put_count.new.output c.put_count-2.new.output
    (count_note (codes "bytes that are no part of a segment:") n)) c.noise.ensures c.put_count-2.ensures)
