-- What holds of both ends with their files over beginnings anew too, where a server gives up what waits and joins its
-- encoder, or another one in its place. Source: profile.
use Rattle.std.specs.Prelude.{◌≡◌, ◌⊎◌, ℕ, ◌+◌, ◌-◌, ◌≤◌, nat_lt, List, [], ◌∷◌, ◌++◌, length, Option, Some, None}
use Rattle.std.specs.Prelude.{if◌then◌else◌}
use Rattle.std.specs.List.{AllByRecursion}
use Rattle.uecp_elements.specs.declared.code.Code.{Code}
use Rattle.uecp_frame.specs.Findings.{Closed}
use Rattle.uecp_encoder.specs.Target.{Step, Taken}
use Rattle.uecp_encoder.specs.State.{EncoderState}
use Rattle.uecp_link.specs.Kept.{IsReady}
use Rattle.promises.specs.Station.{Station, DiskEvent, FitsOnDisks, run_on_disks, station_from}
use Rattle.promises.specs.Acts.{history_on_disks}
use Rattle.promises.specs.CrashLaws.{HoldsWithDisks}

-- What happens from one beginning anew up to the next: the encoder as it is once it was joined, and events and crashes.
pub record Epoch (V : Type 0) : Type 0 where
  pub encoder : EncoderState V
  pub events : List DiskEvent

-- What that comes to where so many lines were taken before.
abbrev pub comes_to : {V : Type 0} → Step V → Taken V → (before : ℕ) → Epoch V → Station V
comes_to step taken before x = run_on_disks step taken x.encoder.address (station_from x.encoder before) x.events

-- Epochs follow one another, from so many lines on, and a store. The encoder of each is at this address, ready, and has
-- the store that was left before; or it is a new one, or lost its file, and has the opening store.
abbrev pub AreEpochs : {V : Type 0} → Step V → Taken V → (address : ℕ) → (opening : V) → (before : ℕ) → (left : V)
    → List (Epoch V) → Type 0
AreEpochs step taken address opening before left [] = Unit {0}
AreEpochs step taken address opening before left (x ∷ xs) =
    (x.encoder.address ≡ address) × IsReady x.encoder.ring × (x.encoder.part ≡ Closed)
    × ((x.encoder.value ≡ left) ⊎ (x.encoder.value ≡ opening)) × AllByRecursion FitsOnDisks x.events
    × AreEpochs step taken address opening (comes_to step taken before x).server_file.taken
    (comes_to step taken before x).world.encoder.value xs

-- Each has the headline, of the messages that were sent in it.
abbrev pub HoldEach : {V : Type 0} → Step V → Taken V → (before : ℕ) → List (Epoch V) → Type 0
HoldEach step taken before [] = Unit {0}
HoldEach step taken before (x ∷ xs) =
    HoldsWithDisks step taken x.encoder before (comes_to step taken before x)
    (history_on_disks step taken x.encoder.address (station_from x.encoder before) x.events)
    × HoldEach step taken (comes_to step taken before x).server_file.taken xs

-- What is told, as a list (private).
abbrev pub as_list : Option (Option Code) → List (Option Code)
as_list None = []
as_list (Some told) = told ∷ []

-- What was told of the line of a number where so many were taken before: of the message behind these, from 0.
abbrev pub told_in : {V : Type 0} → (before : ℕ) → Station V → (number : ℕ) → List (Option Code)
told_in before s number = if nat_lt before number then as_list (s.told (number - (before + 1))) else []

-- All that was told of it, over epochs.
abbrev pub tellings : {V : Type 0} → Step V → Taken V → (before : ℕ) → List (Epoch V) → (number : ℕ)
    → List (Option Code)
tellings step taken before [] number = []
tellings step taken before (x ∷ xs) number =
    told_in before (comes_to step taken before x) number
    ++ tellings step taken (comes_to step taken before x).server_file.taken xs number

-- Law: over epochs that follow one another, from so many lines on, each has the headline; and of each line one thing is
-- told at most.
abbrev pub HeadlineOverEpochs : {V : Type 0} → Step V → Taken V → Type 0
HeadlineOverEpochs {V} step taken =
    (address : ℕ) (opening : V) (before : ℕ) (left : V) (epochs : List (Epoch V))
    → AreEpochs step taken address opening before left epochs
    → HoldEach step taken before epochs × ((number : ℕ) → length (tellings step taken before epochs number) ≤ 1)
