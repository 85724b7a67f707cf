use Rattle.std.proofs.Common.{◌≡◌, ◌+◌, length, take}
use Rattle.uecp_link.specs.HeldMessages.{held_in, AreSpelled}
use Rattle.uecp_link.specs.Resuming.{numbered_from}
use Rattle.uecp_link.proofs.server.resuming.held_from.Given as goal

-- so many as were taken are held, under the counters of their numbers and with their frames
abbrev pub invariant-loop-message : goal.invariant-loop-message
invariant-loop-message l =
    (held_in l.held.items ≡ numbered_from l.first (take l.message-index l.kept)) × AreSpelled l.address l.held.items
    × (length l.held.items ≡ l.message-index) × (l.number ≡ l.first + l.message-index)
