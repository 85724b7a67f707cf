-- A flag among words.
use Rattle.std.proofs.Common.{◌≡◌, List, [], ◌∷◌, ℕ, zero, suc, ◌<◌, Bool, true, false, ◌||◌, refl, length, get_or, map}
use Rattle.std.proofs.Common.{arith}
use Rattle.std.proofs.Common.{String, Global, string_bytes}
use Rattle.std.specs.List.{list_any}

or_true : (b : Bool) → (b || true) ≡ true
or_true true = refl
or_true false = refl

-- a word for which the test holds is among the words
pub any_at : (p : List ℕ → Bool) (xs : List (String Global)) (i : ℕ) (d : String Global) → i < length xs
    → p (string_bytes (get_or xs i d)) ≡ true → list_any p (map string_bytes xs) ≡ true
any_at p [] i d lt hit = absurd (omega arith)
any_at p (x ∷ xs) zero d lt hit = rw hit refl
any_at p (x ∷ xs) (suc i) d lt hit = rw (any_at p xs i d (omega arith) hit) (or_true (p (string_bytes x)))
