use Rattle.std.proofs.Common.{◌≡◌, ℕ, ◌<◌, false, length, get_or}
use Rattle.rds_groups.specs.Groups.{bit_at}
use Rattle.rds_groups.proofs.group.Group.bits.Given as goal

-- the bits that were written are those of the group
abbrev pub invariant-loop-place : goal.invariant-loop-place
invariant-loop-place l =
    (length l.bits ≡ 104) × ((k : ℕ) → k < l.place → get_or l.bits k false ≡ bit_at l.self k)
