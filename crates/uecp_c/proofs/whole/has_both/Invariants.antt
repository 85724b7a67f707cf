use Rattle.std.proofs.Common.{◌≡◌, length}
use Rattle.uecp_frame.specs.Findings.{Closed}
use Rattle.uecp_link.specs.Joining.{reply_counters}
use Rattle.uecp_c.specs.Joining.{seen_after}
use Rattle.uecp_c.proofs.Counters.{unseen}
use Rattle.uecp_c.proofs.whole.has_both.Given as goal

-- the rest brings what is left of the replies
abbrev pub invariant-loop-rest : goal.invariant-loop-rest
invariant-loop-rest l =
    seen_after l.seen (reply_counters l.address l.deframer l.rest)
    ≡ seen_after unseen (reply_counters l.address Closed l.bytes)

abbrev pub decreases-loop-rest : goal.decreases-loop-rest
decreases-loop-rest l = length l.rest
