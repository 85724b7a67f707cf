-- Two loans.
use Rattle.std.proofs.Common.{◌≡◌, ℕ, List, [], ◌∷◌}

pub first_of_two : (a b c d : ℕ) → a ∷ b ∷ [] ≡ c ∷ d ∷ [] → a ≡ c
first_of_two a b c d same = cc

pub second_of_two : (a b c d : ℕ) → a ∷ b ∷ [] ≡ c ∷ d ∷ [] → b ≡ d
second_of_two a b c d same = cc
