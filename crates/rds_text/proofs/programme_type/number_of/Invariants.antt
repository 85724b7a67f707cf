use Rattle.std.proofs.Common.{ℕ, ◌<◌}
use Rattle.rds_text.specs.ProgrammeTypes.{HasName}
use Rattle.rds_text.proofs.programme_type.number_of.Given as goal

-- No number below this one has the name.
abbrev pub invariant-loop-number : goal.invariant-loop-number
invariant-loop-number l = (k : ℕ) → k < l.number → HasName l.region k l.name → ⊥
