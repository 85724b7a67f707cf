use Rattle.std.proofs.Common.{◌≡◌, take}
use Rattle.uecp_net.specs.Sending.{submitted_all}
use Rattle.uecp_net.proofs.saved.batch.submit_all.Given as goal

-- the messages so far are submitted
abbrev pub invariant-loop-message : goal.invariant-loop-message
invariant-loop-message g l = l.sender ≡ submitted_all l.fn.sender (take l.message-index l.batch)
