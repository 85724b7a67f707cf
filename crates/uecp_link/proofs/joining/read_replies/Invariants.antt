use Rattle.uecp_link.specs.Joining.{ReadSoFar}
use Rattle.uecp_link.proofs.joining.read_replies.Given as goal

-- no read failed, and not both replies were read
abbrev pub invariant-loop-turn : goal.invariant-loop-turn
invariant-loop-turn g l = ReadSoFar g.R.Read.remaining l.fn.server l.server l.fn.reader l.reader l.replies
    l._turn
