use Rattle.uecp_link.specs.Listening.{Tried}
use Rattle.uecp_link.proofs.driving.resend.Given as goal

-- no try brought the acknowledgement
abbrev pub invariant-loop-before : goal.invariant-loop-before
invariant-loop-before g l = Tried g.R.Read.remaining g.W.Write.contents l.fn.server l.server l.fn.reader l.reader
    l.fn.writer l.writer l.fn.turns l.before l.written
