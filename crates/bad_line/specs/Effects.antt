-- What is said of what a line does on purpose (profile).
use Rattle.std.specs.Prelude.{ℕ, List, [], ◌∷◌, codes, decimal, flat_map}
use Rattle.bad_line.specs.declared.rules.rule.Way.{Way}
use Rattle.bad_line.specs.Rules.{way_word}
use Rattle.bad_line.specs.declared.connections.effect.Effect.{Effect}
use Rattle.bad_line.specs.declared.connections.effect.Effect.TheVariants.{Lost, Twice, Damaged, Broken, Refused}

-- Texts one behind the other.
abbrev pub joined : List (List ℕ) → List ℕ
joined texts = flat_map (λ text. text) texts

-- What is said of a segment, its direction and its number, between what stands before and what stands behind.
abbrev pub segment_line : (before : List ℕ) → Way → (number : ℕ) → (behind : List ℕ) → List ℕ
segment_line before way number behind =
    joined (before ∷ way_word way ∷ codes " " ∷ decimal number ∷ behind ∷ [])

-- The line that is said of an effect.
abbrev pub effect_line : Effect → List ℕ
effect_line (Lost way number) = segment_line [] way number (codes " lost\n")
effect_line (Twice way number) = segment_line [] way number (codes " twice\n")
effect_line (Damaged way number place) =
    joined (way_word way ∷ codes " " ∷ decimal number ∷ codes " damaged at byte " ∷ decimal place ∷ codes "\n" ∷ [])
effect_line (Broken way number) = segment_line (codes "broken behind ") way number (codes "\n")
effect_line Refused = codes "connection refused\n"
