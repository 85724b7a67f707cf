-- The types of groups, by their names.
use Rattle.std.proofs.Common.{◌≡◌, ℕ, List, [], ◌∷◌, ◌++◌, refl, sym, ◌∙◌, ap, inl, inr}
use Rattle.uecp_phrases.specs.Phrases.{IsGroupType}
use Rattle.uecp_phrases.specs.Reading.{IsVersion}

-- the last letter and what stands before it
pub last_one : (a b : List ℕ) (x y : ℕ) → a ++ (x ∷ []) ≡ b ++ (y ∷ []) → (a ≡ b) × (x ≡ y)
last_one [] [] x y e = (refl, cc)
last_one [] (c ∷ []) x y e = absurd (cc e)
last_one [] (c ∷ d ∷ b) x y e = absurd (cc e)
last_one (c ∷ []) [] x y e = absurd (cc e)
last_one (c ∷ d ∷ a) [] x y e = absurd (cc e)
last_one (c ∷ a) (d ∷ b) x y e =
    let head : c ≡ d = cc in
    let tail : a ++ (x ∷ []) ≡ b ++ (y ∷ []) = cc in
    let both = last_one a b x y tail in
    (ap (λ h. h ∷ a) head ∙ ap (λ l. d ∷ l) both.0, both.1)

pub no_letter : (word digits : List ℕ) (letter : ℕ) → word ≡ digits ++ (letter ∷ [])
    → ((version : ℕ) → IsVersion letter version → ⊥) → (kind : ℕ) → IsGroupType word kind → ⊥
no_letter word digits letter is none kind (own, number, _, inl (same, _)) =
    let both = last_one digits own letter 0x41 (sym is ∙ same) in none 0 (inl (both.1, refl))
no_letter word digits letter is none kind (own, number, _, inr (same, _)) =
    let both = last_one digits own letter 0x42 (sym is ∙ same) in none 1 (inr (both.1, refl))
