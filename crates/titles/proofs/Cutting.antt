-- Behind how many bytes a text is cut.
use Rattle.std.proofs.Common.{◌≡◌, ◌+◌, ◌-◌, ◌<◌, ◌≤◌, ℕ, false, List, arith, subst, inl, inr}
use Rattle.std.proofs.Math.Nat.{eq-or-lt_of_le}
use Rattle.titles.specs.Cut.{ends_word}

-- no word ends behind more than so many bytes
abbrev pub NoneEnds : (text : List ℕ) → (left_out : ℕ) → Type 0
NoneEnds text left_out = (m : ℕ) → 64 - left_out < m → m ≤ 64 → ends_word text m ≡ false

pub none_on : (text : List ℕ) (left_out : ℕ) → left_out < 16 → NoneEnds text left_out
    → ends_word text (64 - left_out) ≡ false → NoneEnds text (left_out + 1)
none_on text left_out lt none here = λ m more most.
    let least : 64 - left_out ≤ m = omega (arith, lt, more) in
    elim (eq-or-lt_of_le least) [
      | inl same ↦ subst (λ k. ends_word text k ≡ false) same here
      | inr above ↦ none m above most
    ]
