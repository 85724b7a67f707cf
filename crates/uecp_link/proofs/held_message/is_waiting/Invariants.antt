use Rattle.std.proofs.Common.{◌≡◌, drop}
use Rattle.uecp_link.specs.Server.{waiting_among, waits_for}
use Rattle.uecp_link.specs.HeldMessages.{held_in}
use Rattle.uecp_link.proofs.held_message.is_waiting.Given as goal

-- the rest decides
abbrev pub invariant-loop-message : goal.invariant-loop-message
invariant-loop-message l = waits_for (waiting_among (held_in (drop l.message-index l.held))) l.counter
    ≡ waits_for (waiting_among (held_in l.held)) l.counter
