-- The kept replies: pairs of a counter and a code, the newest first.
use Rattle.std.specs.Prelude.{◌≡◌, ℕ, ◌≤◌, ◌==◌, if◌then◌else◌, List, [], ◌∷◌, length, take, Option, Some, None}
use Rattle.uecp_elements.specs.declared.code.Code.{Code}

-- The code of the newest pair that has the counter, or none where no pair has it (profile).
abbrev pub kept_code : List (ℕ × Code) → ℕ → Option Code
kept_code [] counter = None
kept_code (pair ∷ older) counter = if pair.0 == counter then Some pair.1 else kept_code older counter

-- The counter of the newest pair, or none where no pair is held (profile).
abbrev pub newest : List (ℕ × Code) → Option ℕ
newest [] = None
newest (pair ∷ older) = Some pair.0

-- The ring once a pair is kept: it stands in front, and of all pairs the first 127 are left (profile).
abbrev pub keep : List (ℕ × Code) → ℕ → Code → List (ℕ × Code)
keep ring counter code = take 127 ((counter, code) ∷ ring)

-- No counter stands in two pairs.
abbrev pub HasEachOnce : List (ℕ × Code) → Type 0
HasEachOnce [] = Unit {0}
HasEachOnce (pair ∷ older) = (kept_code older pair.0 ≡ None) × HasEachOnce older

-- What every ring is: at most 127 pairs, no counter in two of them, and none that is 00 (profile).
pub record IsRing (ring : List (ℕ × Code)) : Type 0 where
  pub at_most : length ring ≤ 127
  pub once : HasEachOnce ring
  pub numbered : kept_code ring 0 ≡ None
