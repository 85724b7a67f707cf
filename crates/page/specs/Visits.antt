-- Those who ask a page, each over a connection (profile).
use Rattle.std.specs.Prelude.{◌≡◌, ◌≢◌, ◌⊎◌, ◌≤◌, ◌+◌, ◌%◌, ◌^◌, ℕ, ◌-◌, min, nat_lt, Bool, true, false}
use Rattle.std.specs.Prelude.{List, [], ◌∷◌, ◌++◌, length, take, All, count_by}
use Rattle.std.specs.List.{AllByRecursion}
use Rattle.page.specs.declared.clients.client.Phase.{Phase}
use Rattle.page.specs.declared.clients.client.Phase.TheVariants.{Asking, Live, Closing}
use Rattle.page.specs.declared.guests.connection.Passed.{Passed}
use Rattle.page.specs.declared.guests.connection.Passed.TheVariants.{Bytes, NotNow, Gone}
use Rattle.page.specs.declared.guests.sockets.Accepted.{Accepted}
use Rattle.page.specs.declared.guests.sockets.Accepted.TheVariants.{One, Nobody, NoRoom}
use Rattle.page.specs.declared.guests.guest.Guest.{Guest}
use Rattle.page.specs.declared.guests.all.Guests.{Guests}
use Rattle.page.specs.declared.guests.guest.Deed.{Deed}
use Rattle.page.specs.declared.guests.guest.Deed.TheVariants.{CatchUp, Deliver, Tick, End}
use Rattle.page.specs.Events.{Event, Past}
use Rattle.page.specs.Sending.{Standing, SaysAlive, Ends}
use Rattle.page.specs.Answers.{Source}
use Rattle.page.specs.Hearing.{Hears}
use Rattle.page.specs.ClientView.{standing_of, came_of}
use Rattle.page.specs.Life.{IsNew, born, Turn, line_comes, bytes_come, is_sent, is_assured, is_ended, Runs}
use Rattle.page.specs.Talk.{Talk, IsKnown, IsUnsaid, Gives, Gets}
use Rattle.page.specs.Delivering.{IsSent, IsCaughtUp, IsServed}

-- A request was heard as one where this says whether the machine's own names alone are served.
abbrev pub IsAskedWith : (own_only : Bool) → Turn → Type 0
IsAskedWith own_only (line_comes line) = Unit {0}
IsAskedWith own_only (bytes_come source own_only' bytes) = own_only' ≡ own_only
IsAskedWith own_only (is_sent events bytes) = Unit {0}
IsAskedWith own_only is_assured = Unit {0}
IsAskedWith own_only is_ended = Unit {0}

-- Where a connection stands, of whose request these bytes came, and what was said on it, is what came of turns of a
-- life: in these all bytes that it gave were heard, each once and in order, and all that was written to it was.
pub record Lives (own_only : Bool) (past : Past) (said : Talk) (x : Standing) (came : List ℕ) : Type 0 where
  pub past_then : Past
  pub begun : Standing
  pub turns : List Turn
  pub heard : List ℕ
  pub got : List ℕ
  pub is_new : IsNew begun
  pub asked : AllByRecursion (IsAskedWith own_only) turns
  pub runs : Runs (born past_then begun) turns (record { past = past; came = heard; standing = x; written = got })
  pub heard_is : IsKnown said.given heard
  pub got_is : IsKnown said.written got
  pub came_is : x.phase ≡ Asking → came ≡ heard

-- A connection on which this was said has lived such a life.
abbrev pub HasLived : (said : Talk) → Type 0
HasLived said =
    (own_only : Bool) × (past : Past) × (x : Standing) × (came : List ℕ) × Lives own_only past said x came

-- Nothing was said yet on the connection of one who was just accepted.
abbrev pub IsUnsaidOne : {C : Type 0} → (talk : C → Talk) → Accepted C → Type 0
IsUnsaidOne talk (One connection) = IsUnsaid (talk connection)
IsUnsaidOne talk Nobody = Unit {0}
IsUnsaidOne talk NoRoom = Unit {0}

-- It gets events.
abbrev pub gets_events : Phase → Bool
gets_events Asking = false
gets_events Live = true
gets_events Closing = false

-- How many ask at a time, and how many of them get events.
abbrev pub guests_most : ℕ
guests_most = 128

abbrev pub live_most : ℕ
live_most = 64

-- At which tick, of a second each, one is let go that has not asked: it has five seconds at least. And at which one is
-- that was answered, whether it took its answer or not. One that gets events is kept.
abbrev pub stays_at : Phase → (ticks : ℕ) → Bool
stays_at Asking ticks = nat_lt ticks 6
stays_at Live ticks = true
stays_at Closing ticks = nat_lt ticks 20

-- All who ask.
abbrev pub guests_of : {C : Type 0} → Guests C → List (Guest C)
guests_of guests = guests.guests.items

-- How many of these get events.
abbrev pub live_in : {C : Type 0} → List (Guest C) → ℕ
live_in guests = count_by (λ g. gets_events (standing_of g.client).phase) guests

-- All that each of these is owed waits, or 64 KiB of it do.
abbrev pub AreCaughtUp : {C : Type 0} → Past → List (Guest C) → Type 0
AreCaughtUp past guests = AllByRecursion (λ g. IsCaughtUp past (standing_of g.client)) guests

-- No connection has the number.
abbrev pub HasNone : {C : Type 0} → (numbered : C → ℕ) → (number : ℕ) → List (Guest C) → Type 0
HasNone numbered number guests = All (λ g. numbered g.connection ≢ number) guests

module _ {C : Type 0} (talk : C → Talk) where
  abbrev pub GuestLives : (own_only : Bool) → Past → Guest C → Type 0
  GuestLives own_only past g = Lives own_only past (talk g.connection) (standing_of g.client) (came_of g.client)

  -- Nothing came of it.
  abbrev pub IsStill : (g g' : Guest C) → Type 0
  IsStill g g' = (talk g'.connection ≡ talk g.connection) × (g' ≡ record g { connection = g'.connection })

  -- It gave these bytes, and hears all of them: of one that asks they stand behind those that came of its request, and
  -- it is told what `Hears` has; another stands as it stood.
  pub record HearsMore (source : Source) (own_only : Bool) (bytes : List ℕ) (g g' : Guest C) : Type 0 where
    pub gives : Gives bytes (talk g.connection) (talk g'.connection)
    pub hears : (standing_of g.client).phase ≡ Asking
        → Hears source own_only (came_of g.client ++ bytes) (standing_of g.client) (standing_of g'.client)
    pub came : (standing_of g'.client).phase ≡ Asking → came_of g'.client ≡ came_of g.client ++ bytes
    pub kept : ((standing_of g.client).phase ≡ Asking → ⊥) → standing_of g'.client ≡ standing_of g.client
    pub same : g' ≡ record g { connection = g'.connection; client = g'.client }

  -- A read of it came to this. It is kept unless that was its end.
  abbrev pub HearsRead : Source → (own_only : Bool) → (buffer : List ℕ) → Passed → (g : Guest C) → (keeps : Bool)
      → (g' : Guest C) → Type 0
  HearsRead source own_only buffer (Bytes count) g keeps g' =
      ((count ≡ 0) × (keeps ≡ false) × Gives [] (talk g.connection) (talk g'.connection)
      × (g' ≡ record g { connection = g'.connection }))
      ⊎ ((count ≢ 0) × (keeps ≡ true) × HearsMore source own_only (take count buffer) g g')
  HearsRead source own_only buffer NotNow g keeps g' = (keeps ≡ true) × IsStill g g'
  HearsRead source own_only buffer Gone g keeps g' = (keeps ≡ false) × IsStill g g'

  -- It is read once, and hears what that gave.
  abbrev pub HearsOnce : (reads : C → List ℕ → Passed → C → Type 0) → Source → (own_only : Bool) → (g : Guest C)
      → (keeps : Bool) → (g' : Guest C) → Type 0
  HearsOnce reads source own_only g keeps g' = (buffer : List ℕ) × (passed : Passed)
      × reads g.connection buffer passed g'.connection × HearsRead source own_only buffer passed g keeps g'

  -- These events were put behind what waits, and these bytes written to its connection.
  pub record SendsOn (past : Past) (events : List Event) (written : List ℕ) (g g' : Guest C) : Type 0 where
    pub sent : IsSent past events written (standing_of g.client) (standing_of g'.client)
    pub gets : Gets written (record (talk g.connection) { is_shut = (talk g'.connection).is_shut }) (talk g'.connection)
    pub came : came_of g'.client ≡ came_of g.client
    pub ticks : g'.ticks ≡ g.ticks

  -- What waits was written as far as it takes it; and where that was its answer, it was told that no more is.
  pub record SendsNow (past : Past) (g : Guest C) (keeps : Bool) (g' : Guest C) : Type 0 where
    pub events : List Event
    pub written : List ℕ
    pub sends : SendsOn past events written g g'
    pub served : keeps ≡ true → IsServed past written (talk g'.connection) (standing_of g'.client)
    pub shut : keeps ≡ true → (standing_of g'.client).phase ≡ Closing → (standing_of g'.client).output ≡ []
        → (g'.is_shut ≡ true) × (g.is_shut ≡ false → (talk g'.connection).is_shut ≡ true)

  -- A tick goes by: one that gets events may be told that all is well, at each tenth; and another is let go where it is
  -- time.
  pub record Ticks (g : Guest C) (keeps : Bool) (g' : Guest C) : Type 0 where
    pub ticks : g'.ticks ≡ min (g.ticks + 1) (2 ^ 32 - 1)
    pub keeps_is : keeps ≡ stays_at (standing_of g'.client).phase g'.ticks
    pub says : SaysAlive (standing_of g.client) (standing_of g'.client)
    pub quiet : (g'.ticks % 10 ≢ 0) → g'.client ≡ g.client
    pub came : came_of g'.client ≡ came_of g.client
    pub same : g' ≡ record g { client = g'.client; ticks = g'.ticks }

  -- What becomes of it, of whom this is asked, and whether it is kept.
  --
  -- The events that it is owed are put behind what waits, until none is left or 64 KiB waits. What waits is sent, where
  -- anything does. A tick goes by. No more events come.
  abbrev pub Does : Deed → Past → (g : Guest C) → (keeps : Bool) → (g' : Guest C) → Type 0
  Does CatchUp past g keeps g' = (events : List Event) × SendsOn past events [] g g'
      × (g' ≡ record g { client = g'.client }) × (keeps ≡ true → IsCaughtUp past (standing_of g'.client))
  Does Deliver past g keeps g' = (((standing_of g.client).output ≡ []) × (keeps ≡ true) × (g' ≡ g))
      ⊎ SendsNow past g keeps g'
  Does Tick past g keeps g' = Ticks g keeps g'
  Does End past g keeps g' = Ends (standing_of g.client) (standing_of g'.client)
      × (came_of g'.client ≡ came_of g.client) × (keeps ≡ true) × (g' ≡ record g { client = g'.client })

  -- One may be let go where it is not to be kept; and where it can't be told of when it may be written again.
  abbrev pub MayGo : Deed → (keeps : Bool) → Type 0
  MayGo CatchUp keeps = keeps ≡ false
  MayGo Deliver keeps = Unit {0}
  MayGo Tick keeps = keeps ≡ false
  MayGo End keeps = keeps ≡ false

  -- It does this, and is kept or let go.
  abbrev pub TakesTurn : Deed → Past → (g : Guest C) → (stays : Bool) → (g' : Guest C) → Type 0
  TakesTurn deed past g true g' = Does deed past g true g'
  TakesTurn deed past g false g' = (keeps : Bool) × Does deed past g keeps g' × MayGo deed keeps

  -- The same of all, one after another: who is kept stays in its place among the others.
  abbrev pub AllDo : Deed → Past → (guests guests' : List (Guest C)) → Type 0
  AllDo deed past [] guests' = guests' ≡ []
  AllDo deed past (g ∷ guests) guests' = (g' : Guest C)
      × ((TakesTurn deed past g true g'
      × ((others : List (Guest C)) × (guests' ≡ g' ∷ others) × AllDo deed past guests others))
      ⊎ (TakesTurn deed past g false g' × AllDo deed past guests guests'))

  -- Those who ask, with these events kept: each lives, and they are no more than may ask, nor get events.
  pub record AreServed (own_only : Bool) (past : Past) (guests : List (Guest C)) : Type 0 where
    pub lives : AllByRecursion (GuestLives own_only past) guests
    pub few : length guests ≤ guests_most
    pub live_few : live_in guests ≤ live_most

  abbrev pub AllServed : Past → Guests C → Type 0
  AllServed past guests = AreServed guests.own_only past (guests_of guests)

  -- One is heard, and then sent what waits, and kept or let go.
  abbrev pub HearsThen : (reads : C → List ℕ → Passed → C → Type 0) → Source → (own_only : Bool) → (g : Guest C)
      → (stays : Bool) → (g' : Guest C) → Type 0
  HearsThen reads source own_only g true g' = (heard : Guest C) × HearsOnce reads source own_only g true heard
      × SendsNow source.past heard true g'
  HearsThen reads source own_only g false g' = HearsOnce reads source own_only g false g'
      ⊎ ((heard : Guest C) × (keeps : Bool) × HearsOnce reads source own_only g true heard
      × SendsNow source.past heard keeps g')
