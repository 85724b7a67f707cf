use Rattle.std.proofs.Common.{◌≡◌, ◌+◌, ◌≤◌, length, drop}
use Rattle.uecp_link.specs.Server.{waiting_among}
use Rattle.uecp_link.specs.HeldMessages.{held_in}
use Rattle.uecp_link.proofs.held_message.count_waiting.Given as goal

-- what is counted, and what waits among the rest
abbrev pub invariant-loop-message : goal.invariant-loop-message
invariant-loop-message l = record {
  all : l.count + length (waiting_among (held_in (drop l.message-index l.held)))
      ≡ length (waiting_among (held_in l.held));
  within : l.count ≤ l.message-index;
}
