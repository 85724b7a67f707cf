-- The rules of a text, line by line (profile).
use Rattle.std.specs.Prelude.{◌≡◌, ℕ, List, [], ◌∷◌, ◌++◌}
use Rattle.bad_line.specs.declared.rules.rule.Rule.{Rule}
use Rattle.bad_line.specs.declared.rules.file.RulesFault.{RulesFault}
use Rattle.bad_line.specs.declared.rules.file.RulesFault.TheVariants.{NotARule, OutOfMemory}
use Rattle.bad_line.specs.Rules.{Spells}

-- The texts of lines, each under its line's number, spell these rules, in order.
abbrev pub AreSpelled : List (ℕ × List ℕ) → List Rule → Type 0
AreSpelled [] [] = Unit {0}
AreSpelled [] (rule ∷ rules) = ⊥
AreSpelled (line ∷ lines) [] = ⊥
AreSpelled (line ∷ lines) (rule ∷ rules) = Spells line.1 rule × AreSpelled lines rules

-- The texts are refused for this: the line of that number is the first that spells no rule; or memory was wanting.
abbrev pub IsRefused : List (ℕ × List ℕ) → RulesFault → Type 0
IsRefused lines (NotARule number) =
    (before : List (ℕ × List ℕ)) × (text : List ℕ) × (behind : List (ℕ × List ℕ)) × (rules : List Rule)
    × (lines ≡ before ++ (number, text) ∷ behind) × AreSpelled before rules
    × ((rule : Rule) → Spells text rule → ⊥)
IsRefused lines OutOfMemory = Unit {0}
