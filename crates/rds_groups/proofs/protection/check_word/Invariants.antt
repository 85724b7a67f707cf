use Rattle.std.proofs.Common.{◌≡◌, ◌-◌, ◌/◌, ◌^◌}
use Rattle.rds_groups.specs.Blocks.{remainder}
use Rattle.rds_groups.proofs.protection.check_word.Given as goal

-- the remainder of the first bits, so many as were read
abbrev pub invariant-loop-i : goal.invariant-loop-i
invariant-loop-i l = l.remainder ≡ remainder l.i (l.bits / 2 ^ (26 - l.i))
