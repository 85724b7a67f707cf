-- The places of those who get events, and what becomes of them where one is heard (profile).
use Rattle.std.specs.Prelude.{◌≡◌, ◌⊎◌, ◌≤◌, ◌<◌, ◌+◌, ℕ, Bool, true, false, List, ◌∷◌, ◌++◌, length, take, drop, map}
use Rattle.std.specs.Prelude.{nat_lt, slice_index_or, if◌then◌else◌}
use Rattle.std.specs.List.{AllByRecursion}
use Rattle.seats.specs.declared.seat.Seat.{Seat}
use Rattle.seats.specs.Seats.{IsSeatGiven, NoSeatGiven}
use Rattle.page.specs.declared.guests.connection.Passed.{Passed}
use Rattle.page.specs.declared.guests.guest.Guest.{Guest}
use Rattle.page.specs.declared.guests.room.Kind.{Kind}
use Rattle.page.specs.declared.guests.room.Kind.TheVariants.{Events, Connections}
use Rattle.page.specs.declared.guests.room.Room.{Room}
use Rattle.page.specs.declared.guests.room.Room.TheVariants.{Free, Given, Full}
use Rattle.page.specs.declared.state.silence.Moment.{Moment}
use Rattle.page.specs.Events.{Past}
use Rattle.page.specs.State.{State}
use Rattle.page.specs.Sending.{Standing}
use Rattle.page.specs.ClientView.{standing_of}
use Rattle.page.specs.Talk.{Talk}
use Rattle.page.specs.Visits.{GuestLives, HearsThen, gets_events, live_in, guests_most, live_most}

-- Something waits to be sent to it.
abbrev pub waits : Standing → Bool
waits x = nat_lt 0 (length x.output)

-- There is no place of events.
abbrev pub is_full : Room → Bool
is_full Free = false
is_full (Given place) = false
is_full Full = true

module _ {C : Type 0} (origin : C → ℕ) where
  -- The seat of one who asks. Among those who get events it has one where it gets them, and is behind where something
  -- waits to be sent to it. Among all each has one, and none counts as behind.
  abbrev pub seat_of : Kind → Guest C → Seat
  seat_of Events g = record {
    origin = origin g.connection;
    is_taken = gets_events (standing_of g.client).phase;
    is_behind = waits (standing_of g.client);
  }
  seat_of Connections g = record { origin = origin g.connection; is_taken = true; is_behind = false }

  abbrev pub seats_of : Kind → List (Guest C) → List Seat
  seats_of kind guests = map (seat_of kind) guests

  -- Where one more that comes from there finds a place of events: a free one; or where all are taken that of the one
  -- who gives its own, as `IsSeatGiven` has it; or nowhere.
  abbrev pub HasRoom : (from : ℕ) → List (Guest C) → Room → Type 0
  HasRoom from guests Free = live_in guests < live_most
  HasRoom from guests (Given place) =
      (live_most ≤ live_in guests) × IsSeatGiven from place (seats_of Events guests)
  HasRoom from guests Full = (live_most ≤ live_in guests) × NoSeatGiven from (seats_of Events guests)

module _ {C : Type 0} where
  -- One more gets events than may: the one that gives it its place is there, and gets them too.
  abbrev pub IsOver : Room → List (Guest C) → Type 0
  IsOver Free guests = ⊥
  IsOver (Given place) guests = (live_in guests ≡ live_most + 1) × (place < length guests)
      × ((d : Guest C) → gets_events (standing_of (slice_index_or guests place d).client).phase ≡ true)
  IsOver Full guests = ⊥

  -- Who stays where one was heard that may have got this place: all, where no more get events than may; else the one
  -- that stands there is let go, and the others stand as they stand.
  abbrev pub GivesEvents : Room → (heard guests' : List (Guest C)) → Type 0
  GivesEvents room heard guests' = ((live_in heard ≤ live_most) × (guests' ≡ heard))
      ⊎ ((live_in heard ≡ live_most + 1) × (place : ℕ) × (room ≡ Given place)
      × (guests' ≡ take place heard ++ drop (place + 1) heard))

module _ {C : Type 0} (talk : C → Talk) where
  -- One was heard, and may have got this place: all live, and no more get events than may, or one more.
  pub record AreHeard (room : Room) (own_only : Bool) (past : Past) (heard : List (Guest C)) : Type 0 where
    pub lives : AllByRecursion (GuestLives talk own_only past) heard
    pub few : length heard ≤ guests_most
    pub live_few : (live_in heard ≤ live_most) ⊎ IsOver room heard

  -- Something came on the connection of this number: that one is heard, at this moment, from what is shown and kept
  -- then, and whether there is a place of events for one that comes from where it comes, which depends on all; and it
  -- is sent what waits, and kept or let go. Where it gets events from then on, and all places of those were taken, the
  -- one that gives it its place is let go. The others stand as they stood.
  pub record HearsOne (origin numbered : C → ℕ) (reads : C → List ℕ → Passed → C → Type 0) (number : ℕ) (shown : State)
      (past : Past) (moment : Moment) (own_only : Bool) (guests guests' : List (Guest C)) : Type 0 where
    pub before : List (Guest C)
    pub one : Guest C
    pub behind : List (Guest C)
    pub among : guests ≡ before ++ one ∷ behind
    pub number_is : numbered one.connection ≡ number
    pub room : Room
    pub has_room : HasRoom origin (origin one.connection) guests room
    pub one' : Guest C
    pub stays : Bool
    pub hears : HearsThen talk reads (record {
      shown = shown;
      past = past;
      moment = moment;
      is_full = is_full room;
    }) own_only one stays one'
    pub heard : List (Guest C)
    pub heard_are : heard ≡ (if stays then before ++ one' ∷ behind else before ++ behind)
    pub gives : GivesEvents room heard guests'
