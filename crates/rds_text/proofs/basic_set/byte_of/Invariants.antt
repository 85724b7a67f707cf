use Rattle.std.proofs.Common.{◌≢◌, ℕ, ◌<◌, Some}
use Rattle.rds_text.specs.BasicSet.{character_of}
use Rattle.rds_text.proofs.basic_set.byte_of.Given as goal

-- No byte below this one stands for the character.
abbrev pub invariant-loop-byte : goal.invariant-loop-byte
invariant-loop-byte l = (k : ℕ) → k < l.byte → character_of k ≢ Some l.character
