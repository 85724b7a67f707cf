use Rattle.std.proofs.Common.{◌≡◌, length}
use Rattle.uecp_link.specs.HeldMessages.{left_of}
use Rattle.uecp_link.proofs.held_message.let_go.Given as goal

-- the same is left of the rest
abbrev pub invariant-loop-held : goal.invariant-loop-held
invariant-loop-held l = left_of l.held.items ≡ left_of l.fn.held.items

abbrev pub decreases-loop-held : goal.decreases-loop-held
decreases-loop-held l = length l.held.items
