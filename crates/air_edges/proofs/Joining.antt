-- One more listens where as many do as may.
use Rattle.std.proofs.Common.{◌≡◌, ◌∙◌, ◌<◌, ◌≤◌, ℕ, Bool, true, false, List, Option, length, ap, sym, subst, inl, inr}
use Rattle.std.proofs.Common.{arith}
use Rattle.std.proofs.Common.{◌+◌, [], ◌∷◌, ◌++◌, take, get_or}
use Rattle.std.proofs.lemmas.List.{take_more, take_all, map-append, length-map}
use Rattle.std.specs.List.{list_any}
use Rattle.seats.specs.declared.seat.Seat.{Seat}
use Rattle.seats.specs.Seats.{IsSeatGiven, NoSeatGiven}
use Rattle.air_edges.specs.Hearers.{Hearing, is_behind, seat_of, seats_of, replaced}
use Rattle.air_edges.specs.Edge.{Edge, TellsOnce, full_line, slow_line, crowd_line, TakesPlace, JoinsFull, Joins}

-- ---- the seats of those so far
module _ {H : Type 0} (hearers : List (Hearing H)) where
  pub seats_more : (i : ℕ) (x : Hearing H) (before after : List Seat) (s : Seat) → i < length hearers
      → x ≡ get_or hearers i x → s ≡ seat_of x → before ≡ seats_of (take i hearers) → after ≡ before ++ s ∷ []
      → after ≡ seats_of (take (i + 1) hearers)
  seats_more i x before after s few is seat_is before_is after_is =
      let seat : Hearing H → Seat = λ h. seat_of h in
      let more : seats_of (take (i + 1) hearers) ≡ seats_of (take i hearers) ++ seat_of (get_or hearers i x) ∷ [] =
      ap (λ (hs : List (Hearing H)). seats_of hs) (take_more hearers i x few)
      ∙ map-append seat (take i hearers) (get_or hearers i x ∷ []) in
      let one : s ≡ seat_of (get_or hearers i x) = seat_is ∙ ap seat is in
      after_is ∙ ap (λ xs. xs ++ s ∷ []) before_is ∙ ap (λ t. seats_of (take i hearers) ++ t ∷ []) one ∙ sym more

  pub seats_all : (i : ℕ) (all : List Seat) → length hearers ≤ i → all ≡ seats_of (take i hearers)
      → all ≡ seats_of hearers
  seats_all i all over is = is ∙ ap (λ (hs : List (Hearing H)). seats_of hs) (take_all i hearers over)

-- ---- who gives its place is there
seat_there : (origin place : ℕ) (seats : List Seat) → IsSeatGiven origin place seats → place < length seats
seat_there origin place seats (inl (few, here, before)) = few
seat_there origin place seats (inr (none, (few, here, before))) = few

pub given_there : {H : Type 0} (origin place : ℕ) (hearers : List (Hearing H))
    → IsSeatGiven origin place (seats_of hearers) → place < length hearers
given_there {H} origin place hearers given =
    let few = seat_there origin place (seats_of hearers) given in
    let many : length (seats_of hearers) ≡ length hearers = length-map hearers (λ (h : Hearing H). seat_of h) in
    omega (arith, few, many)

-- ---- in its place
pub takes_slow : {S H : Type 0} (behind : Bool) (place : ℕ) (output : H) (origin : ℕ) (e0 e e' : Edge S H)
    (hearers : List (Hearing H)) → e0 ≡ e → behind ≡ list_any is_behind e0.hearers → behind ≡ true
    → hearers ≡ replaced place output origin e0.hearers → TellsOnce slow_line e0.is_full_told e0.told e'.told
    → e' ≡ record e0 { hearers = hearers; is_full_told = true; told = e'.told }
    → TakesPlace (list_any is_behind e.hearers) place output origin e e'
takes_slow {S} {H} behind place output origin e0 e e' hearers is value slow list tells after =
    subst (λ (x : Edge S H). TakesPlace (list_any is_behind x.hearers) place output origin x e') is
    (subst (λ (b : Bool). TakesPlace b place output origin e0 e') (sym slow ∙ value) (
      tells,
      after ∙ ap (λ (hs : List (Hearing H)).
          let x : Edge S H = record e0 { hearers = hs; is_full_told = true; told = e'.told } in x) list,
    ))

pub takes_of_crowd : {S H : Type 0} (behind : Bool) (place : ℕ) (output : H) (origin : ℕ) (e0 e e' : Edge S H)
    (hearers : List (Hearing H)) → e0 ≡ e → behind ≡ list_any is_behind e0.hearers → behind ≡ false
    → hearers ≡ replaced place output origin e0.hearers → TellsOnce crowd_line e0.is_crowd_told e0.told e'.told
    → e' ≡ record e0 { hearers = hearers; is_crowd_told = true; told = e'.told }
    → TakesPlace (list_any is_behind e.hearers) place output origin e e'
takes_of_crowd {S} {H} behind place output origin e0 e e' hearers is value none list tells after =
    subst (λ (x : Edge S H). TakesPlace (list_any is_behind x.hearers) place output origin x e') is
    (subst (λ (b : Bool). TakesPlace b place output origin e0 e') (sym none ∙ value) (
      tells,
      after ∙ ap (λ (hs : List (Hearing H)).
          let x : Edge S H = record e0 { hearers = hs; is_crowd_told = true; told = e'.told } in x) list,
    ))

-- ---- where as many listen as may
pub joins_not : {S H : Type 0} (output : H) (origin : ℕ) (e0 e e' : Edge S H) → e0 ≡ e → 64 ≤ length e0.hearers
    → NoSeatGiven origin (seats_of e0.hearers) → TellsOnce full_line e.is_full_told e.told e'.told
    → e' ≡ record e { is_full_told = true; told = e'.told } → Joins output origin e e'
joins_not {S} {H} output origin e0 e e' is full none tells after =
    let there : (64 ≤ length e.hearers) × NoSeatGiven origin (seats_of e.hearers) =
    subst (λ (x : Edge S H). (64 ≤ length x.hearers) × NoSeatGiven origin (seats_of x.hearers)) is (full, none) in
    inr (there.0, inr (there.1, tells, after))

pub joins_in_place : {S H : Type 0} (output : H) (origin place : ℕ) (e0 e e' : Edge S H) → e0 ≡ e
    → 64 ≤ length e0.hearers → IsSeatGiven origin place (seats_of e0.hearers)
    → TakesPlace (list_any is_behind e.hearers) place output origin e e' → Joins output origin e e'
joins_in_place {S} {H} output origin place e0 e e' is full given takes =
    let there : (64 ≤ length e.hearers) × IsSeatGiven origin place (seats_of e.hearers) =
    subst (λ (x : Edge S H). (64 ≤ length x.hearers) × IsSeatGiven origin place (seats_of x.hearers)) is
    (full, given) in
    inr (there.0, inl (place, there.1, takes))
