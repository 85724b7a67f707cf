-- What is said of a segment, by its parts.
use Rattle.std.proofs.Common.{◌≡◌, ℕ, List, [], ◌∷◌, subst, codes}
use Rattle.bad_line.specs.Effects.{joined}

pub said_of : (P : List ℕ → Type 0) (before name name' digits digits' behind : List ℕ) → name ≡ name'
    → digits ≡ digits' → P (joined (before ∷ name ∷ codes " " ∷ digits ∷ behind ∷ []))
    → P (joined (before ∷ name' ∷ codes " " ∷ digits' ∷ behind ∷ []))
said_of P before name name' digits digits' behind a b said =
    subst (λ n. P (joined (before ∷ n ∷ codes " " ∷ digits' ∷ behind ∷ []))) a
    (subst (λ d. P (joined (before ∷ name ∷ codes " " ∷ d ∷ behind ∷ []))) b said)

pub damage_said : (P : List ℕ → Type 0) (name name' digits digits' place place' : List ℕ) → name ≡ name'
    → digits ≡ digits' → place ≡ place'
    → P (joined (name ∷ codes " " ∷ digits ∷ codes " damaged at byte " ∷ place ∷ codes "\n" ∷ []))
    → P (joined (name' ∷ codes " " ∷ digits' ∷ codes " damaged at byte " ∷ place' ∷ codes "\n" ∷ []))
damage_said P name name' digits digits' place place' a b e said =
    subst (λ n. P (joined (n ∷ codes " " ∷ digits' ∷ codes " damaged at byte " ∷ place' ∷ codes "\n" ∷ []))) a
    (subst (λ d. P (joined (name ∷ codes " " ∷ d ∷ codes " damaged at byte " ∷ place' ∷ codes "\n" ∷ []))) b
    (subst (λ p. P (joined (name ∷ codes " " ∷ digits ∷ codes " damaged at byte " ∷ p ∷ codes "\n" ∷ []))) e said))
