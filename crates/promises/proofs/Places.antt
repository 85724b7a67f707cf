-- How many segments pass before one comes.
use Rattle.std.proofs.Common.{◌≡◌, ◌≢◌, ℕ, ◌+◌, ◌-◌, ◌<◌, ◌≤◌, ap, arith, if◌then◌else◌, inl, inr, nat_lt}
use Rattle.std.proofs.lemmas.Bool.{cases_lt, lt-ltb, le-ltb}
use Rattle.carousel.specs.Next.{turn}

abbrev pub far : (count i now : ℕ) → ℕ
far count i now = if nat_lt i now then count + i - now else i - now

far_back : (count i now : ℕ) → i < now → far count i now ≡ count + i - now
far_back count i now h = ap (λ b. if b then count + i - now else i - now) (lt-ltb i now h)

far_on : (count i now : ℕ) → now ≤ i → far count i now ≡ i - now
far_on count i now h = ap (λ b. if b then count + i - now else i - now) (le-ltb i now h)

pub turn_in : (count next : ℕ) → next < count → turn count next ≡ next
turn_in count next h = ap (λ b. if b then next else 0) (lt-ltb next count h)

pub turn_over : (count next : ℕ) → count ≤ next → turn count next ≡ 0
turn_over count next h = ap (λ b. if b then next else 0) (le-ltb next count h)

pub turn_below : (count next : ℕ) → 0 < count → turn count next < count
turn_below count next h =
    elim (cases_lt next count) [
      | inl a ↦ omega (arith, turn_in count next a)
      | inr a ↦ omega (arith, turn_over count next a)
    ]

pub far_below : (count i now : ℕ) → i < count → now < count → far count i now < count
far_below count i now h below =
    elim (cases_lt i now) [
      | inl a ↦ omega (arith, far_back count i now a)
      | inr a ↦ omega (arith, far_on count i now a)
    ]

-- a segment that is not this one brings it nearer
pub nearer : (count i now : ℕ) → now < count → i < count → now ≢ i
    → far count i (turn count (now + 1)) < far count i now
nearer count i now hn hi other =
    elim (cases_lt (now + 1) count) [
      | inl a ↦
          let e = turn_in count (now + 1) a in
          elim (cases_lt i now) [
            | inl b ↦ omega (arith, far_back count i now b, far_back count i (turn count (now + 1)) (omega arith), e)
            | inr b ↦ omega (arith, far_on count i now b, far_on count i (turn count (now + 1)) (omega arith), e)
          ]
      | inr a ↦
          let e = turn_over count (now + 1) a in
          omega (arith, far_back count i now (omega arith), far_on count i (turn count (now + 1)) (omega arith), e)
    ]
