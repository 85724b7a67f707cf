use Rattle.std.proofs.Common.{◌≡◌, [], IsTrue, is_some}
use Rattle.uecp_watch.proofs.Watched.{HasLeft}
use Rattle.uecp_watch.proofs.watching.watch.Given as goal

-- all that was read is told, and the deframer has the part that it leaves open
abbrev pub invariant-loop-turn : goal.invariant-loop-turn
invariant-loop-turn g l =
    HasLeft l.form (is_some l.clock) (g.R.Read.remaining l.fn.reader) (g.R.Read.remaining l.reader)
    (g.W.Write.contents l.fn.writer) (g.W.Write.contents l.writer) l.deframer
    × (l.output.bytes ≡ []) × IsTrue l.output.is_whole
