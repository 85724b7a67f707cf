-- How many places origins have.
use Rattle.std.proofs.Common.{◌≡◌, ◌≤◌, ◌<◌, ◌+◌, ◌⊎◌, ◌==◌, ◌&&◌, ℕ, zero, suc, Bool, true, false, cond, max, List, []}
use Rattle.std.proofs.Common.{◌∷◌, length, get_or, refl, ap, sym, subst, ◌∙◌, inl, inr, arith}
use Rattle.std.proofs.Common.{Option, Some, None}
use Rattle.std.specs.Option.{IfNone}
use Rattle.std.proofs.lemmas.Bool.{cases_Bool, cases_lt, and_parts, eqb-true, false≢true}
use Rattle.std.proofs.lemmas.List.Sums.{sum_by-cons}
use Rattle.std.proofs.lemmas.List.{get_or_default}
use Rattle.std.proofs.Math.Nat.{le-max_left, le-max_right}
use Rattle.seats.specs.declared.seat.Seat.{Seat}
use Rattle.seats.specs.Seats.{OfNone, IsFirst, share, IsMost, HasShare, IsOfMost}
use Rattle.seats.specs.Laws.{FewKeep, FewerGetIn}

-- ---- whose the places of an origin are
abbrev is_from : ℕ → Seat → Bool
is_from origin s = s.is_taken && s.origin == origin

-- one of these has a place and comes from there
abbrev Comes : ℕ → List Seat → Type 0
Comes origin xs = (k : ℕ) × (k < length xs) × ((d : Seat) → (get_or xs k d).is_taken ≡ true)
    × ((d : Seat) → (get_or xs k d).origin ≡ origin)

comes_first : (origin : ℕ) (x : Seat) (xs : List Seat) → is_from origin x ≡ true → Comes origin (x ∷ xs)
comes_first origin x xs is =
    let parts = and_parts x.is_taken (x.origin == origin) is in
    (0, omega arith, (λ d. parts.0), (λ d. eqb-true x.origin origin parts.1))

comes_later : (origin : ℕ) (x : Seat) (xs : List Seat) → Comes origin xs → Comes origin (x ∷ xs)
comes_later origin x xs (k, few, taken, from) = (suc k, omega (arith, few), taken, from)

none_first : (origin : ℕ) (x : Seat) (xs : List Seat) → is_from origin x ≡ false → share origin xs ≡ 0
    → share origin (x ∷ xs) ≡ 0
none_first origin x xs is none =
    let f : Bool → ℕ = λ b. cond b 1 0 in
    let here : cond (is_from origin x) 1 0 ≡ 0 = ap f is in
    let both : share origin (x ∷ xs) ≡ cond (is_from origin x) 1 0 + share origin xs =
    sum_by-cons (λ s. cond (is_from origin s) 1 0) x xs in
    omega (arith, both, here, none)

comes_or_none : (origin : ℕ) (xs : List Seat) → (share origin xs ≡ 0) ⊎ Comes origin xs
comes_or_none origin [] = inl refl
comes_or_none origin (x ∷ xs) = elim (cases_Bool (is_from origin x)) [
  | inl is ↦ inr (comes_first origin x xs is)
  | inr is ↦ elim (comes_or_none origin xs) [
    | inl none ↦ inl (none_first origin x xs is none)
    | inr later ↦ inr (comes_later origin x xs later)
  ]
]

-- ---- the most
pub no_more_of_all : (seats : List Seat) (most : ℕ)
    → ((k : ℕ) (d : Seat) → k < length seats → share (get_or seats k d).origin seats ≤ most)
    → (origin : ℕ) → share origin seats ≤ most
no_more_of_all seats most below origin = elim (comes_or_none origin seats) [
  | inl none ↦ omega (arith, none)
  | inr (k, few, taken, from) ↦
      let d : Seat = record { origin = 0; is_taken = true; is_behind = true } in
      let P : ℕ → Type 0 = λ o. share o seats ≤ most in
      subst P (from d) (below k d few)
]

larger : (a b : ℕ) → (max a b ≡ a) ⊎ (max a b ≡ b)
larger a b = elim (cases_lt a b) [ inl less ↦ inr (omega (arith, less)) | inr more ↦ inl (omega (arith, more)) ]

pub most_then : (seats : List Seat) (origin own most after : ℕ) → own ≡ share origin seats → after ≡ max own most
    → (most ≡ 0) ⊎ ((o : ℕ) × (share o seats ≡ most)) → (after ≡ 0) ⊎ ((o : ℕ) × (share o seats ≡ after))
most_then seats origin own most after own_is after_is was =
    elim (larger own most) [
      | inl first ↦ inr (origin, sym (after_is ∙ first ∙ own_is))
      | inr second ↦ elim was [
        | inl none ↦ inl (after_is ∙ second ∙ none)
        | inr (o, is) ↦ inr (o, is ∙ sym (after_is ∙ second))
      ]
    ]

pub more_below : (seats : List Seat) (i : ℕ) (e : Seat) (own most after : ℕ) → i < length seats
    → own ≡ share (get_or seats i e).origin seats → after ≡ max own most
    → ((k : ℕ) (d : Seat) → k < i → share (get_or seats k d).origin seats ≤ most)
    → (k : ℕ) (d : Seat) → k < i + 1 → share (get_or seats k d).origin seats ≤ after
more_below seats i e own most after few own_is after_is below k d less = elim (cases_lt k i) [
  | inl before ↦
      let under = below k d before in
      let above = le-max_right own most in
      omega (arith, under, above, after_is)
  | inr over ↦
      let here : k ≡ i = omega (arith, less, over) in
      let read : (get_or seats k d).origin ≡ (get_or seats i e).origin =
      ap (λ j. (get_or seats j d).origin) here ∙ ap (λ (s : Seat). s.origin) (get_or_default seats i d e few) in
      let same : share (get_or seats k d).origin seats ≡ own = ap (λ o. share o seats) read ∙ sym own_is in
      let above = le-max_left own most in
      omega (arith, same, above, after_is)
]

pub below_all : (seats : List Seat) (i most : ℕ) → length seats ≤ i
    → ((k : ℕ) (d : Seat) → k < i → share (get_or seats k d).origin seats ≤ most)
    → (k : ℕ) (d : Seat) → k < length seats → share (get_or seats k d).origin seats ≤ most
below_all seats i most over below k d few = below k d (omega (arith, few, over))

-- ---- of the most by its share
pub of_most : (origin most : ℕ) (seats : List Seat) (s : Seat) → IsMost most seats → share origin seats < most
    → HasShare most seats s → IsOfMost origin seats s
of_most origin most seats s is fewer (taken, has) = (
  taken,
  (λ other. let more = is.no_more other in omega (arith, more, has)),
  omega (arith, fewer, has),
)

pub has_most : (origin most : ℕ) (seats : List Seat) (s : Seat) → IsMost most seats → IsOfMost origin seats s
    → HasShare most seats s
has_most origin most seats s is (taken, above, fewer) =
    let less = is.no_more s.origin in
    elim is.some_has [
      | inl none ↦ (taken, omega (arith, less, none))
      | inr (o, so) ↦ let more = above o in (taken, omega (arith, less, more, so))
    ]

pub none_of_most : (origin most : ℕ) (seats : List Seat) (s : Seat) → IsMost most seats → most ≤ share origin seats
    → IsOfMost origin seats s → ⊥
none_of_most origin most seats s is all (taken, above, fewer) =
    let less = is.no_more s.origin in
    omega (arith, less, all, fewer)

pub first_as : (P Q : Seat → Type 0) (place : ℕ) (seats : List Seat) → ((s : Seat) → P s → Q s)
    → ((s : Seat) → Q s → P s) → IsFirst P place seats → IsFirst Q place seats
first_as P Q place seats to from (few, here, before) = (
  few,
  (λ d. to (get_or seats place d) (here d)),
  (λ k d less is. before k d less (from (get_or seats k d) is)),
)

pub none_as : (P Q : Seat → Type 0) (seats : List Seat) → ((s : Seat) → Q s → P s) → OfNone P seats → OfNone Q seats
none_as P Q seats from none = λ k d few is. none k d few (from (get_or seats k d) is)

pub none_at_all : (Q : Seat → Type 0) (seats : List Seat) → ((s : Seat) → Q s → ⊥) → OfNone Q seats
none_at_all Q seats never = λ k d few is. never (get_or seats k d) is

pub none_then : {X : Type 0} (r : Option X) (P Q : Type 0) → IfNone r P → (P → Q) → IfNone r Q
none_then None P Q none f = f none
none_then (Some x) P Q none f = tt

-- ---- nobody goes for a crowd
pub few_keep_lem : FewKeep
few_keep_lem origin place other seats d (inl (few, here, before)) keeps =
    let lags = (here d).1 in
    absurd (false≢true (sym keeps ∙ lags))
few_keep_lem origin place other seats d (inr (none, (few, here, before))) keeps =
    let (taken, above, fewer) = here d in
    (above other, fewer)

-- ---- the most of some of these
most_more : (seats xs : List Seat) (x : Seat) (most : ℕ)
    → ((k : ℕ) (d : Seat) → k < length xs → share (get_or xs k d).origin seats ≤ most)
    → (k : ℕ) (d : Seat) → k < length (x ∷ xs)
    → share (get_or (x ∷ xs) k d).origin seats ≤ max (share x.origin seats) most
most_more seats xs x most below zero d few = le-max_left (share x.origin seats) most
most_more seats xs x most below (suc k) d few =
    let less : k < length xs = omega (arith, few) in
    let under = below k d less in
    let above = le-max_right (share x.origin seats) most in
    omega (arith, under, above)

most_of : (seats xs : List Seat) → (most : ℕ)
    × ((k : ℕ) (d : Seat) → k < length xs → share (get_or xs k d).origin seats ≤ most)
    × ((most ≡ 0) ⊎ ((o : ℕ) × (share o seats ≡ most)))
most_of seats [] = (0, (λ k d few. absurd (elim few [ ])), inl refl)
most_of seats (x ∷ xs) =
    let (most, below, has) = most_of seats xs in (
      max (share x.origin seats) most,
      most_more seats xs x most below,
      most_then seats x.origin (share x.origin seats) most (max (share x.origin seats) most) refl refl has,
    )

-- ---- one more whose origin has fewer than another
of_most_taken : (origin other most : ℕ) (seats : List Seat) → share origin seats < share other seats
    → IsMost most seats → (k : ℕ) × (k < length seats) × ((d : Seat) → IsOfMost origin seats (get_or seats k d))
of_most_taken origin other most seats fewer is =
    let more = is.no_more other in
    elim is.some_has [
      | inl none ↦ absurd (omega (arith, fewer, more, none))
      | inr (o, so) ↦ elim (comes_or_none o seats) [
        | inl none ↦ absurd (omega (arith, fewer, more, none, so))
        | inr (k, few, taken, from) ↦ (
          k,
          few,
          (λ d.
              let has : share (get_or seats k d).origin seats ≡ most = ap (λ n. share n seats) (from d) ∙ so in
              let less : share origin seats < most = omega (arith, fewer, more) in
              of_most origin most seats (get_or seats k d) is less (taken d, has)),
        )
      ]
    ]

pub fewer_get_in_lem : FewerGetIn
fewer_get_in_lem origin other seats fewer (none, nobody) =
    let (most, below, has) = most_of seats seats in
    let is : IsMost most seats = record { no_more = no_more_of_all seats most below; some_has = has } in
    let (k, few, of) = of_most_taken origin other most seats fewer is in
    let d : Seat = record { origin = 0; is_taken = true; is_behind = true } in
    nobody k d few (of d)
