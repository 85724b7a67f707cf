-- Those who ask while a page is served (profile).
use Rattle.std.specs.Prelude.{◌≡◌, ◌⊎◌, ◌<◌, ◌≤◌, ◌+◌, ◌-◌, ◌/◌, ℕ, List, Option, option_map}
use Rattle.page.specs.Intake.{board_of}
use Rattle.page.specs.Talk.{Talk}
use Rattle.page.specs.declared.state.silence.Moment.{Moment}
use Rattle.page.specs.declared.intake.taking.Intake.{Intake}
use Rattle.page.specs.declared.intake.taking.Taken.{Taken}
use Rattle.page.specs.declared.guests.connection.Passed.{Passed}
use Rattle.page.specs.declared.guests.connection.Passed.TheVariants.{Bytes, NotNow, Gone}
use Rattle.page.specs.declared.guests.guest.Guest.{Guest}
use Rattle.page.specs.declared.guests.guest.Deed.TheVariants.{Deliver, Tick}
use Rattle.page.specs.Visits.{guests_of, AreCaughtUp, AllServed, AllDo, HasNone}
use Rattle.page.specs.EventPlaces.{HearsOne}
use Rattle.page.specs.Places.{ComesIn}
use Rattle.page_server.specs.declared.server.Serving.{Serving}

-- No bytes passed on a connection.
abbrev pub PassesNone : Passed → Type 0
PassesNone (Bytes count) = ⊥
PassesNone NotNow = Unit {0}
PassesNone Gone = Unit {0}

-- All that each of those who ask is owed of the events that are kept now waits to be sent, or 64 KiB of it do. So
-- nobody waits for an event that is kept until another comes.
abbrev pub AllCaughtUp : {C : Type 0} → Serving C → Type 0
AllCaughtUp s = AreCaughtUp (board_of s.intake).past (guests_of s.guests)

-- How many whole seconds have gone by since then, where it is told.
abbrev pub seconds_since : (then : Option ℕ) → (now : ℕ) → Option ℕ
seconds_since then now = option_map (λ t. (now - t) / 1000) then

-- The moment at which one is heard where the clock says now: how many seconds ago the last message came, where one did,
-- and the limit of what is stale.
abbrev pub moment_of : {C : Type 0} → Serving C → (now : ℕ) → Moment
moment_of s now = record { now = now; seconds = seconds_since s.heard now; stale = s.stale }

-- A line was taken as one that came when the clock was read.
abbrev pub TakesNow : {S : Type 0} → (takes : (came : ℕ) → (before behind : Intake) → Option Taken → Type 0)
    → (clock : S → ℕ → S → Type 0) → (sockets : S) → (before behind : Intake) → Type 0
TakesNow {S} takes clock sockets before behind =
    (came : ℕ) × (read : S) × (told : Option Taken) × clock sockets came read × takes came before behind told

module _ {C : Type 0} (talk : C → Talk) where
  -- All who ask live, with the events that are kept now; and they are no more than may ask, nor get events.
  abbrev pub IsServing : Serving C → Type 0
  IsServing s = AllServed talk (board_of s.intake).past s.guests

  -- Something came on the connection of this number: the one that has it is heard, and sent what waits, as `HearsOne`
  -- has it, from what is shown and kept now, at the moment that the clock says; where none has it all stand as they
  -- stood.
  abbrev pub IsHeard : {S : Type 0} → (origin numbered : C → ℕ) → (reads : C → List ℕ → Passed → C → Type 0)
      → (clock : S → ℕ → S → Type 0) → (sockets : S) → (number : ℕ) → (s s' : Serving C) → Type 0
  IsHeard {S} origin numbered reads clock sockets number s s' =
      (HasNone numbered number (guests_of s.guests) × (s'.guests ≡ s.guests))
      ⊎ ((now : ℕ) × (read : S) × clock sockets now read
      × HearsOne talk origin numbered reads number (board_of s.intake).shown (board_of s.intake).past (moment_of s now)
      s.guests.own_only (guests_of s.guests) (guests_of s'.guests))

  -- One more comes on this connection, as `ComesIn` has it; and what came on it already is heard at once, before
  -- another comes who may take its place.
  abbrev pub Welcomes : {S : Type 0} → (origin numbered : C → ℕ) → (reads : C → List ℕ → Passed → C → Type 0)
      → (clock : S → ℕ → S → Type 0) → (connection : C) → (s s' : Serving C) → Type 0
  Welcomes {S} origin numbered reads clock connection s s' = (come : Serving C) × (sockets : S)
      × ComesIn origin connection (guests_of s.guests) (guests_of come.guests)
      × (come ≡ record s { guests = come.guests })
      × IsHeard origin numbered reads clock sockets (numbered connection) come s'

  -- What waits is sent to all, as far as each takes it. Where a second has gone by since the last tick, as the
  -- clock was read before, there is one then, and what waits is sent once more.
  pub record Settles {S : Type 0} (reads : S → ℕ → S → Type 0) (sockets : S) (s s' : Serving C) : Type 0 where
    pub now : ℕ
    pub read : S
    pub reads_so : reads sockets now read
    pub sent : List (Guest C)
    pub sends : AllDo talk Deliver (board_of s.intake).past (guests_of s.guests) sent
    pub then : ((now < s.ticked + 1000) × (s'.ticked ≡ s.ticked) × (guests_of s'.guests ≡ sent))
        ⊎ ((s.ticked + 1000 ≤ now) × (s'.ticked ≡ now) × (seen : List (Guest C))
        × AllDo talk Tick (board_of s.intake).past sent seen
        × AllDo talk Deliver (board_of s.intake).past seen (guests_of s'.guests))
