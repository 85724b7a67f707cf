-- How late segments come (profile).
use Rattle.std.specs.Prelude.{ℕ, max, nat_le, if◌then◌else◌, List, [], ◌∷◌}
use Rattle.bad_line.specs.declared.rules.rule.Rule.{Rule}
use Rattle.bad_line.specs.declared.rules.rule.Rule.TheVariants.{Delay, Pace}

-- How many milliseconds later the segment of this number comes by a rule: from the number on that it names.
abbrev pub delay_by : (number : ℕ) → Rule → ℕ
delay_by number (Delay milliseconds from) = if nat_le from number then milliseconds else 0
delay_by number rule = 0

-- By several rules: the longest counts.
abbrev pub delay_in : (number : ℕ) → List Rule → ℕ
delay_in number [] = 0
delay_in number (rule ∷ rules) = max (delay_by number rule) (delay_in number rules)

-- For how many milliseconds it is held, one behind the other, by a rule.
abbrev pub pace_by : (number : ℕ) → Rule → ℕ
pace_by number (Pace milliseconds from) = if nat_le from number then milliseconds else 0
pace_by number rule = 0

-- By several rules: the longest counts.
abbrev pub pace_in : (number : ℕ) → List Rule → ℕ
pace_in number [] = 0
pace_in number (rule ∷ rules) = max (pace_by number rule) (pace_in number rules)
