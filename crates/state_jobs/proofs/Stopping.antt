-- What a status is not.
use Rattle.std.proofs.Common.{◌≡◌, ℕ, sym, ◌∙◌}

-- a status that is 3 is not 0
pub not_done : (status : ℕ) → status ≡ 3 → status ≡ 0 → ⊥
not_done status is none = absurd (let three : 3 ≡ 0 = sym is ∙ none in cc)

-- a status that is 3 is not 1
pub not_refused : (status : ℕ) → status ≡ 3 → status ≡ 1 → ⊥
not_refused status is one = absurd (let three : 3 ≡ 1 = sym is ∙ one in cc)
