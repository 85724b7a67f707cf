use Rattle.std.proofs.Common.{length}
use Rattle.uecp_link.specs.Joining.{HearsOn}
use Rattle.uecp_link.proofs.joining.hear_replies.Given as goal

-- the rest brings what is left of the replies
abbrev pub invariant-loop-rest : goal.invariant-loop-rest
invariant-loop-rest l = HearsOn l.fn.server l.server l.piece l.rest l.fn.before l.replies

abbrev pub decreases-loop-rest : goal.decreases-loop-rest
decreases-loop-rest l = length l.rest
