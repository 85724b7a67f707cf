-- Each line once: what holds of both ends, their files and the bytes between them, after whatever happened. Source:
-- profile.
use Rattle.std.specs.Prelude.{◌≡◌, ◌⊎◌, ℕ, ◌+◌, ◌-◌, ◌<◌, ◌≤◌, nat_lt, List, [], ◌∷◌, length, take, slice_get, true}
use Rattle.std.specs.Prelude.{is_some, Some}
use Rattle.std.specs.Prelude.{Contains, ◌++◌, Option, None, if◌then◌else◌}
use Rattle.uecp_elements.specs.declared.code.Code.{Code}
use Rattle.uecp_frame.specs.Findings.{Closed}
use Rattle.uecp_encoder.specs.Target.{Step, Taken}
use Rattle.uecp_encoder.specs.State.{EncoderState}
use Rattle.uecp_encoder.specs.Answering.{answers}
use Rattle.uecp_encoder.specs.Keeping.{kept_of}
use Rattle.uecp_link.specs.Counters.{counter_of}
use Rattle.uecp_link.specs.Server.{ServerState, waiting, waiting_among, waits_for}
use Rattle.uecp_link.specs.Window.{window_sent}
use Rattle.uecp_link.specs.Once.{message_at}
use Rattle.uecp_link.specs.Kept.{IsReady}
use Rattle.promises.specs.DeviceLives.{Deed, Applies, TakesOne, after_deeds}
use Rattle.promises.specs.Ends.{Ends, Studio, EndEvent, IsNewServer, ends_from, run_ends, MayAll, at_studio}
use Rattle.promises.specs.Ends.{at_transmitter, is_of_last}
use Rattle.promises.specs.Ends.{run_studio, run_transmitter, Dials, Writes, Reads, Hears, Tells, Leaves}

-- The messages that were applied, in order.
abbrev pub messages_of : List Deed → List (List ℕ)
messages_of [] = []
messages_of (Applies counter message ∷ deeds) = message ∷ messages_of deeds
messages_of (TakesOne ∷ deeds) = messages_of deeds

-- The code that each of them got.
abbrev pub codes_of : {V : Type 0} → Step V → Taken V → V → List Deed → List Code
codes_of step taken v [] = []
codes_of step taken v (Applies counter message ∷ deeds) =
    (step v message).1 ∷ codes_of step taken (step v message).0 deeds
codes_of step taken v (TakesOne ∷ deeds) = codes_of step taken (taken v).0 deeds

-- The encoder's store is what the first so many of the messages taken make, those of the station and then the lines,
-- each once and in order, with the groups taken between, of the store that it had at first: all of them, once each was
-- told with a code. Each that was told with one is one of these, and that is the code that it got. Each that is not one
-- of them waits in the studio's file, under its counter, once that has the station; and that file counts the lines
-- taken, and no other.
pub record IsEachOnce {V : Type 0} (step : Step V) (taken : Taken V) (e : EncoderState V) (before : ℕ)
    (x : Ends V) : Type 0 where
  pub applied : ℕ
  pub some : (applied ≤ length x.studio.sent) × (length x.studio.sent ≤ applied + 8)
  pub all : ((k : ℕ) → k < length x.studio.sent → is_some (x.studio.told k) ≡ true) → applied ≡ length x.studio.sent
  pub once : messages_of x.transmitter.deeds ≡ take applied x.studio.sent
  pub store : kept_of x.transmitter.encoder ≡ after_deeds step taken (kept_of e) x.transmitter.deeds
  pub told : (k : ℕ) (code : Code) → x.studio.told k ≡ Some code
      → (k < applied) × (slice_get (codes_of step taken e.value x.transmitter.deeds) k ≡ Some code)
  pub waits : x.studio.is_saved ≡ true → (k : ℕ) → applied ≤ k → k < length x.studio.sent
      → Contains (waiting_among x.studio.file.held) (counter_of k, message_at x.studio.sent k)
  pub counted : x.studio.file.taken + x.studio.station ≡ before + length x.studio.sent
  pub said : x.studio.station ≤ length x.studio.sent

-- Law: so it is after whatever may happen, from an encoder that is ready, as a new one is or one that was joined, and a
-- new server for it.
abbrev pub EachLineOnce : {V : Type 0} → Step V → Taken V → Type 0
EachLineOnce {V} step taken =
    (e : EncoderState V) (server : ServerState) (before : ℕ) → IsReady e.ring → e.part ≡ Closed
    → IsNewServer e.address server → (events : List EndEvent) → MayAll step taken (ends_from e server before) events
    → IsEachOnce step taken e before (run_ends step taken (ends_from e server before) events)

-- Law: what an end comes to is what its own events make of it: the other end reaches it by bytes alone, which are in
-- its own `Hears` and `Reads`.
pub record IsOfItsOwn {V : Type 0} (step : Step V) (taken : Taken V) (x : Ends V) (events : List EndEvent) : Type 0
  where
    pub studio : (run_ends step taken x events).studio ≡ run_studio x.studio (at_studio events)
    pub transmitter : (run_ends step taken x events).transmitter
        ≡ run_transmitter step taken x.transmitter (at_transmitter events)

abbrev pub EachEndIsItsOwn : {V : Type 0} → Step V → Taken V → Type 0
EachEndIsItsOwn {V} step taken = (x : Ends V) (events : List EndEvent) → IsOfItsOwn step taken x events

-- ---- Over beginnings anew.

-- What happens from one beginning anew up to the next: the encoder as it is once it was joined, the server that joined
-- it, and what happens then.
pub record Stretch (V : Type 0) : Type 0 where
  pub encoder : EncoderState V
  pub server : ServerState
  pub events : List EndEvent

-- What that comes to where so many lines were taken before.
abbrev pub end_of : {V : Type 0} → Step V → Taken V → (before : ℕ) → Stretch V → Ends V
end_of step taken before x = run_ends step taken (ends_from x.encoder x.server before) x.events

-- One behind another, from so many lines on, and a store: at each the encoder at this address is ready, and has the
-- store that was left before; or it is a new one, or lost its file, and has the opening store.
abbrev pub AreStretches : {V : Type 0} → Step V → Taken V → (address : ℕ) → (opening : V) → (before : ℕ) → (left : V)
    → List (Stretch V) → Type 0
AreStretches step taken address opening before left [] = Unit {0}
AreStretches step taken address opening before left (x ∷ xs) =
    (x.encoder.address ≡ address) × IsReady x.encoder.ring × (x.encoder.part ≡ Closed)
    × ((x.encoder.value ≡ left) ⊎ (x.encoder.value ≡ opening)) × IsNewServer address x.server
    × MayAll step taken (ends_from x.encoder x.server before) x.events
    × AreStretches step taken address opening (end_of step taken before x).studio.file.taken
    (end_of step taken before x).transmitter.encoder.value xs

-- In each, each line is there once: of the lines taken in it, and of the store that it began with.
abbrev pub AreEachOnce : {V : Type 0} → Step V → Taken V → (before : ℕ) → List (Stretch V) → Type 0
AreEachOnce step taken before [] = Unit {0}
AreEachOnce step taken before (x ∷ xs) =
    IsEachOnce step taken x.encoder before (end_of step taken before x)
    × AreEachOnce step taken (end_of step taken before x).studio.file.taken xs

-- A code that was told, as a list (private).
abbrev pub told_list : Option Code → List Code
told_list None = []
told_list (Some code) = code ∷ []

-- What was told of the line of a number where so many were taken before: of the message behind these and the station.
abbrev pub told_of_line : (before : ℕ) → Studio → (number : ℕ) → List Code
told_of_line before x number =
    if nat_lt before number then told_list (x.told (number - (before + 1) + x.station)) else []

-- All that was told of it, over stretches.
abbrev pub all_told : {V : Type 0} → Step V → Taken V → (before : ℕ) → List (Stretch V) → (number : ℕ) → List Code
all_told step taken before [] number = []
all_told step taken before (x ∷ xs) number =
    told_of_line before (end_of step taken before x).studio number
    ++ all_told step taken (end_of step taken before x).studio.file.taken xs number

-- Law: so it is over stretches, one behind another; and of each line, by its number in the studio's file, one code is
-- told at most.
abbrev pub EachLineOnceOverStretches : {V : Type 0} → Step V → Taken V → Type 0
EachLineOnceOverStretches {V} step taken =
    (address : ℕ) (opening : V) (before : ℕ) (left : V) (stretches : List (Stretch V))
    → AreStretches step taken address opening before left stretches
    → AreEachOnce step taken before stretches
    × ((number : ℕ) → length (all_told step taken before stretches number) ≤ 1)

-- ---- Where a connection holds.

-- The encoder leaves its connection, and each that waits.
abbrev pub leaves_each : List (List ℕ) → List EndEvent
leaves_each [] = Leaves ∷ []
leaves_each (c ∷ cs) = Leaves ∷ leaves_each cs

-- One whole try on a new connection: the studio writes what waits, the encoder reads all of that, and the studio hears
-- all that it answers, and tells.
abbrev pub one_try : {V : Type 0} → Step V → Ends V → List EndEvent
one_try step x =
    leaves_each x.between.coming
    ++ Dials ∷ Writes ∷ Reads (window_sent x.studio.server)
    ∷ Hears (answers step (record x.transmitter.encoder { part = Closed }) (window_sent x.studio.server)) ∷ Tells ∷ []

-- All messages that were taken made the store, and nothing was taken since; each that waited was told; and none waits
-- at the studio, in memory or in its file.
pub record IsAllDone {V : Type 0} (x y : Ends V) : Type 0 where
  pub once : messages_of y.transmitter.deeds ≡ x.studio.sent
  pub sent : y.studio.sent ≡ x.studio.sent
  pub told : (k : ℕ) → is_of_last (length x.studio.sent) k ≡ true
      → waits_for (waiting x.studio.server) (counter_of k) ≡ true → is_some (y.studio.told k) ≡ true
  pub none : y.studio.server.held ≡ []
  pub file : y.studio.file.held ≡ []

-- Law: whatever happened, such a try may come next; and then all is done.
abbrev pub OneTryIsEnough : {V : Type 0} → Step V → Taken V → Type 0
OneTryIsEnough {V} step taken =
    (e : EncoderState V) (server : ServerState) (before : ℕ) → IsReady e.ring → e.part ≡ Closed
    → IsNewServer e.address server → (events : List EndEvent) → MayAll step taken (ends_from e server before) events
    → let x = run_ends step taken (ends_from e server before) events in
    MayAll step taken x (one_try step x) × IsAllDone x (run_ends step taken x (one_try step x))
