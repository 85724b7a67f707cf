use Rattle.uecp_link.specs.Listening.{Waits}
use Rattle.uecp_link.proofs.driving.listen.Given as goal

-- no read failed or brought the acknowledgement
abbrev pub invariant-loop-turn : goal.invariant-loop-turn
invariant-loop-turn g l = Waits g.R.Read.remaining l.fn.server l.server l.fn.reader l.reader l._turn
