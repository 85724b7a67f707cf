-- Who gives its place to one more who asks (profile).
use Rattle.std.specs.Prelude.{◌≡◌, ◌⊎◌, ◌≤◌, ◌<◌, ℕ, Bool, true, false, List, [], ◌∷◌, ◌++◌, length}
use Rattle.seats.specs.Seats.{OfNone, IsFirst, IsOfMost, IsSeatGiven, NoSeatGiven}
use Rattle.page.specs.declared.clients.client.Phase.{Phase}
use Rattle.page.specs.declared.clients.client.Phase.TheVariants.{Asking, Closing}
use Rattle.page.specs.declared.guests.guest.Guest.{Guest}
use Rattle.page.specs.declared.guests.room.Kind.TheVariants.{Connections}
use Rattle.page.specs.ClientView.{standing_of, came_of}
use Rattle.page.specs.Life.{IsNew}
use Rattle.page.specs.Sending.{IsLive}
use Rattle.page.specs.Visits.{guests_most}
use Rattle.page.specs.EventPlaces.{seat_of, seats_of}

module _ {C : Type 0} where
  -- It is in this phase, and nothing waits to be sent to it.
  abbrev pub RestsIn : Phase → Guest C → Type 0
  RestsIn phase g = ((standing_of g.client).phase ≡ phase) × ((standing_of g.client).output ≡ [])

  -- It has not asked: the head of its request has not come whole, and it was told nothing.
  abbrev pub HasNotAsked : Guest C → Type 0
  HasNotAsked g = RestsIn Asking g

  -- It was answered, and took all of that: it is owed nothing more.
  abbrev pub HasAll : Guest C → Type 0
  HasAll g = RestsIn Closing g

  -- Each gets events, or waits for the rest of its answer.
  abbrev pub AllAreOwed : List (Guest C) → Type 0
  AllAreOwed guests = OfNone HasAll guests × OfNone HasNotAsked guests

  -- One was just accepted on this connection.
  pub record IsFresh (connection : C) (g : Guest C) : Type 0 where
    pub connection_is : g.connection ≡ connection
    pub is_new : IsNew (standing_of g.client)
    pub came : came_of g.client ≡ []
    pub ticks : g.ticks ≡ 0

  -- It is one of these, as it stands.
  abbrev pub StandsAmong : List (Guest C) → Guest C → Type 0
  StandsAmong guests g = (before : List (Guest C)) × (behind : List (Guest C)) × (guests ≡ before ++ g ∷ behind)

  -- It gets events, or waits for the rest of its answer.
  abbrev pub IsOwed : Guest C → Type 0
  IsOwed g = IsLive (standing_of g.client) ⊎ ((standing_of g.client).output ≡ [] → ⊥)

module _ {C : Type 0} (origin : C → ℕ) where
  -- The one at this place gives it to one more that comes from there: the first of those who have all; where none has,
  -- the first of those who have not asked; where all are owed something, the first of those from whose origin most ask,
  -- where from there fewer do.
  abbrev pub IsGiven : (from place : ℕ) → List (Guest C) → Type 0
  IsGiven from place guests = IsFirst HasAll place guests
      ⊎ ((OfNone HasAll guests × IsFirst HasNotAsked place guests)
      ⊎ (AllAreOwed guests × IsSeatGiven from place (seats_of origin Connections guests)))

  -- One gives its place to one more that comes from there, and the others stand as they stood: the first of those who
  -- have all; where none has, the first of those who have not asked, who has waited longest, as all stand in the order
  -- in which they came; where all are owed something, the first of those from whose origin most ask.
  pub record GivesPlace (from : ℕ) (guests others : List (Guest C)) : Type 0 where
    pub before : List (Guest C)
    pub one : Guest C
    pub behind : List (Guest C)
    pub among : guests ≡ before ++ one ∷ behind
    pub chosen : (HasAll one × OfNone HasAll before)
        ⊎ ((OfNone HasAll guests × HasNotAsked one × OfNone HasNotAsked before)
        ⊎ (AllAreOwed guests × IsSeatGiven from (length before) (seats_of origin Connections guests)))
    pub others_are : others ≡ before ++ behind

  -- None gives its place to one more that comes from there: all are owed something, and from no origin more ask than
  -- from there.
  abbrev pub NoneGives : (from : ℕ) → List (Guest C) → Type 0
  NoneGives from guests = AllAreOwed guests × NoSeatGiven from (seats_of origin Connections guests)

  -- Whether there is a place for one more that comes from there, and who stays then: all, where a place is free; else
  -- all but the one that gives its place.
  abbrev pub HasPlace : (from : ℕ) → List (Guest C) → (has : Bool) → (others : List (Guest C)) → Type 0
  HasPlace from guests true others = ((length guests < guests_most) × (others ≡ guests))
      ⊎ ((guests_most ≤ length guests) × GivesPlace from guests others)
  HasPlace from guests false others =
      (guests_most ≤ length guests) × NoneGives from guests × (others ≡ guests)

  -- One more comes on this connection, and stands behind those who stay. Where there is no place for it, or no memory,
  -- it is let go at once.
  pub record ComesIn (connection : C) (guests guests' : List (Guest C)) : Type 0 where
    pub has : Bool
    pub others : List (Guest C)
    pub place : HasPlace (origin connection) guests has others
    pub stands : (guests' ≡ others)
        ⊎ ((has ≡ true) × (g : Guest C) × IsFresh connection g × (guests' ≡ others ++ g ∷ []))

  -- Whoever is owed something stays, and stands as it stood, where one more comes from there; but for one of those from
  -- whose origin most ask, and more than from there, where all are owed something.
  abbrev pub OwedStay : (from : ℕ) → (guests guests' : List (Guest C)) → Type 0
  OwedStay from guests guests' = (g : Guest C) → StandsAmong guests g → IsOwed g
      → (AllAreOwed guests → IsOfMost from (seats_of origin Connections guests) (seat_of origin Connections g) → ⊥)
      → StandsAmong guests' g
