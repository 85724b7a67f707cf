-- Who gives its place to one more where all places are taken (profile).
use Rattle.std.specs.Prelude.{◌≡◌, ◌⊎◌, ◌≤◌, ◌<◌, ◌==◌, ◌&&◌, ℕ, true, List, length, All, count_by, slice_index_or}
use Rattle.seats.specs.declared.seat.Seat.{Seat}

module _ {X : Type 0} where
  -- It holds of none of these.
  abbrev pub OfNone : (X → Type 0) → List X → Type 0
  OfNone P xs = All (λ x. P x → ⊥) xs

  -- The one at this place is the first of whom it holds.
  abbrev pub IsFirst : (X → Type 0) → (place : ℕ) → List X → Type 0
  IsFirst P place xs = (place < length xs) × ((d : X) → P (slice_index_or xs place d))
      × ((k : ℕ) (d : X) → k < place → P (slice_index_or xs k d) → ⊥)

-- How many of these have a place, and come from there.
abbrev pub share : (origin : ℕ) → List Seat → ℕ
share origin seats = count_by (λ s. s.is_taken && s.origin == origin) seats

-- So many places are the most that an origin has.
pub record IsMost (most : ℕ) (seats : List Seat) : Type 0 where
  pub no_more : (origin : ℕ) → share origin seats ≤ most
  pub some_has : (most ≡ 0) ⊎ ((origin : ℕ) × (share origin seats ≡ most))

-- It has a place, and its origin has so many.
abbrev pub HasShare : ℕ → List Seat → Seat → Type 0
HasShare most seats s = (s.is_taken ≡ true) × (share s.origin seats ≡ most)

-- It has a place, and is behind.
abbrev pub IsBehind : Seat → Type 0
IsBehind s = (s.is_taken ≡ true) × (s.is_behind ≡ true)

-- It has a place, no origin has more places than its own, and this one has fewer.
abbrev pub IsOfMost : (origin : ℕ) → List Seat → Seat → Type 0
IsOfMost origin seats s = (s.is_taken ≡ true) × ((other : ℕ) → share other seats ≤ share s.origin seats)
    × (share origin seats < share s.origin seats)

-- The one at this place gives it to one more that comes from there: the first that is behind; where none is, the first
-- of those whose origin has the most places, where the one more's origin has fewer.
abbrev pub IsSeatGiven : (origin place : ℕ) → List Seat → Type 0
IsSeatGiven origin place seats =
    IsFirst IsBehind place seats ⊎ (OfNone IsBehind seats × IsFirst (IsOfMost origin seats) place seats)

-- None gives its place to one more that comes from there: none is behind, and no origin has more places than that one.
abbrev pub NoSeatGiven : (origin : ℕ) → List Seat → Type 0
NoSeatGiven origin seats = OfNone IsBehind seats × OfNone (IsOfMost origin seats) seats
