use Rattle.std.proofs.Common.{◌≡◌, ◌++◌, map, take, drop}
use Rattle.uecp_link.specs.HeldMessages.{with_mark}
use Rattle.uecp_link.proofs.held_message.mark.Given as goal

-- what is done, and what is left to do
abbrev pub invariant-loop-message : goal.invariant-loop-message
invariant-loop-message l = take l.message-index l.held ++ map (with_mark l.counter) (drop l.message-index l.held)
    ≡ map (with_mark l.counter) l.initial.held
