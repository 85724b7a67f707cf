use Rattle.std.proofs.Common.{arith}
use Rattle.uecp_text.proofs.Begun.{begun_at}
use Rattle.uecp_text.proofs.stop_report.write_parts.Goals as goal

pub returns-in_err-write_whole-clause-begun : goal.returns-in_err-write_whole-clause-begun
returns-in_err-write_whole-clause-begun g c =
    let held = g.W.Write.contents in
    let now = c.loop-part in
    begun_at (held c.args.writer.now) (held now.writer) (held c.write_whole.new.writer) c.args.parts.now now.part-index
    _ (omega arith) now.invariant c.write_whole.ensures.begun
