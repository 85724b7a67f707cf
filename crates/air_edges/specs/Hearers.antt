-- Who listens to the air, and what becomes of them as a group goes out (profile).
use Rattle.std.specs.Prelude.{◌≡◌, ◌⊎◌, ◌+◌, ◌<◌, ◌≤◌, ℕ, suc, Bool, true, ltb}
use Rattle.std.specs.Prelude.{List, [], ◌∷◌, ◌++◌, length, take, map, remove, Option}
use Rattle.std.specs.Io.KnownBytes.{Appends, Keeps}
use Rattle.seats.specs.declared.seat.Seat.{Seat}
use Rattle.air_edges.specs.declared.hears.Taken.{Taken}
use Rattle.air_edges.specs.declared.hears.Taken.TheVariants.{First, NotNow, Gone}
use Rattle.air_edges.specs.declared.hearers.Fate.{Fate}
use Rattle.air_edges.specs.declared.hearers.Fate.TheVariants.{Stays, Slow}
use Rattle.air_edges.specs.declared.hearers.Fate.TheVariants as fate

-- One who listens: the connection to it, from where that comes, and the bytes that it has not taken yet.
pub record Hearing (H : Type 0) : Type 0 where
  pub output : H
  pub origin : ℕ
  pub waiting : List ℕ

-- One who listens from now on: nothing waits for it.
abbrev pub joined : {H : Type 0} → H → (origin : ℕ) → Hearing H
joined output origin = record { output = output; origin = origin; waiting = [] }

-- How many may listen at a time.
abbrev pub hearers_most : ℕ
hearers_most = 64

-- How many bytes wait for one at most.
abbrev pub waiting_most : ℕ
waiting_most = 4096

-- ---- Who gives its place to one more.

-- It has not taken all that went out: something waits for it.
abbrev pub is_behind : {H : Type 0} → Hearing H → Bool
is_behind h = ltb 0 (length h.waiting)

-- Those who listen as those of whom one may give its place: each has one.
abbrev pub seat_of : {H : Type 0} → Hearing H → Seat
seat_of h = record { origin = h.origin; is_taken = true; is_behind = is_behind h }

abbrev pub seats_of : {H : Type 0} → List (Hearing H) → List Seat
seats_of hearers = map seat_of hearers

-- One more listens in the place of the one at this place, who is let go; the others do as they did, in their order.
abbrev pub replaced : {H : Type 0} → (place : ℕ) → H → (origin : ℕ) → List (Hearing H) → List (Hearing H)
replaced place output origin hearers = remove hearers place ++ joined output origin ∷ []

-- ---- One who is offered bytes.

-- No more was taken than was offered.
abbrev pub IsWithin : (offered : List ℕ) → Taken → Type 0
IsWithin offered (First count) = count ≤ length offered
IsWithin offered NotNow = Unit {0}
IsWithin offered Gone = Unit {0}

-- What was taken came behind what the connection had got, and nothing else.
abbrev pub Gets : (held held' : Option (List ℕ)) → (offered : List ℕ) → Taken → Type 0
Gets held held' offered (First count) = Appends held held' (take count offered)
Gets held held' offered NotNow = Keeps held held'
Gets held held' offered Gone = Unit {0}

module _ {H : Type 0} (takes : H → List ℕ → Taken → H → Type 0) where
  -- It was offered these bytes, and took this beginning of them.
  abbrev pub TakesFirst : (output output' : H) → (offered written : List ℕ) → Type 0
  TakesFirst output output' offered written =
      takes output offered (First (length written)) output'
      ⊎ ((written ≡ []) × takes output offered NotNow output')

  -- One who listens gets the bytes of a group, and stays: there is room for them behind what waits for it, it was
  -- offered all that, once, and took a beginning of it, which is what its connection got; what is left of it waits. So
  -- no byte is left out, none comes twice, and each is in its place.
  pub record GetsGroup (contents : H → Option (List ℕ)) (bytes : List ℕ) (h h' : Hearing H) : Type 0 where
    pub written : List ℕ
    pub same_origin : h'.origin ≡ h.origin
    pub room : length h.waiting + length bytes ≤ waiting_most
    pub whole : written ++ h'.waiting ≡ h.waiting ++ bytes
    pub got : Appends (contents h.output) (contents h'.output) written
    pub takes_so : TakesFirst h.output h'.output (h.waiting ++ bytes) written

  -- It is let go: there is no room for the bytes behind what waits.
  abbrev pub IsSlow : (bytes : List ℕ) → Hearing H → Type 0
  IsSlow bytes h = waiting_most < length h.waiting + length bytes

  -- It is let go: its connection was closed or broke, which it said as it was offered the bytes behind what waits.
  abbrev pub IsGone : (bytes : List ℕ) → Hearing H → Type 0
  IsGone bytes h = (length h.waiting + length bytes ≤ waiting_most)
      × ((after : H) × takes h.output (h.waiting ++ bytes) Gone after)

  -- The bytes of a group go out to all who listen, in order: to each once, who stays with what it took; or it is let
  -- go. So many were let go as slow.
  abbrev pub GoesOut : (contents : H → Option (List ℕ)) → (bytes : List ℕ) → (slow : ℕ)
      → (hearers hearers' : List (Hearing H)) → Type 0
  GoesOut contents bytes slow [] hearers' = (hearers' ≡ []) × (slow ≡ 0)
  GoesOut contents bytes slow (h ∷ hearers) hearers' =
      ((h' : Hearing H) × (others : List (Hearing H)) × GetsGroup contents bytes h h' × (hearers' ≡ h' ∷ others)
      × GoesOut contents bytes slow hearers others)
      ⊎ (IsGone bytes h × GoesOut contents bytes slow hearers hearers')
      ⊎ ((fewer : ℕ) × (slow ≡ suc fewer) × IsSlow bytes h × GoesOut contents bytes fewer hearers hearers')

  -- What becomes of one, by its fate (private).
  abbrev pub HasFate : (contents : H → Option (List ℕ)) → (bytes : List ℕ) → Hearing H → Fate → Hearing H → Type 0
  HasFate contents bytes h Stays h' = GetsGroup contents bytes h h'
  HasFate contents bytes h fate.Gone h' = IsGone bytes h
  HasFate contents bytes h Slow h' = IsSlow bytes h
