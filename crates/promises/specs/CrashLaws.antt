-- What holds of both ends with their files, over every list of events and crashes. Source: profile.
use Rattle.std.specs.Prelude.{◌≡◌, ◌⊎◌, ℕ, zero, suc, ◌+◌, ◌≤◌, Bool, true, List, [], ◌∷◌, ◌++◌, length, map, is_none}
use Rattle.std.specs.Prelude.{Some, is_some, slice_get, if◌then◌else◌}
use Rattle.uecp_elements.specs.declared.code.Code.{Code}
use Rattle.std.specs.List.{AllByRecursion}
use Rattle.uecp_frame.specs.Frame.{spelling}
use Rattle.uecp_frame.specs.Findings.{Closed}
use Rattle.uecp_encoder.specs.Target.{Step, Taken}
use Rattle.uecp_encoder.specs.State.{EncoderState, opening}
use Rattle.uecp_link.specs.Counters.{counter_of}
use Rattle.uecp_link.specs.Server.{waiting_among}
use Rattle.uecp_link.specs.Once.{Event, Submit, FrameComes, NoiseToEncoder, EncoderLost, EncoderRestart, Take}
use Rattle.uecp_link.specs.Once.{Once, message_at, missing, refusal_of, at_first}
use Rattle.uecp_link.specs.History.{Act, history}
use Rattle.uecp_link.specs.Law.{World, frame_of, encoder_after, run, start_from, Fits}
use Rattle.uecp_link.specs.Kept.{IsReady}
use Rattle.uecp_link.specs.Holds.{LineState, is_acknowledged, Holds}
use Rattle.uecp_link.specs.Headline.{IsHeadline}
use Rattle.uecp_link.specs.Using.{all_come, IsDone}
use Rattle.uecp_encoder.specs.Keeping.{Kept, Outlives}
use Rattle.uecp_encoder.specs.Keeping.{kept_of as encoder_kept}
use Rattle.uecp_net.specs.Sending.{SenderOver, submitted_all}
use Rattle.uecp_net.specs.declared.saved.keep.Progress.{Progress}
use Rattle.uecp_net.specs.Keeping.{KeptServer, taking}
use Rattle.uecp_net.specs.Keeping.{kept_of as server_kept}
use Rattle.uecp_net.specs.SavedSending.{OutlivesBatch}
use Rattle.uecp_net.specs.SavedSending.{Outlives as OutlivesSettling}
use Rattle.promises.specs.Station.{Station, DiskEvent, FitsOnDisks, acknowledged_by, run_on_disks}
use Rattle.promises.specs.Station.{station_from, server_saves, happens_on_disks, Happens, CutOff}
use Rattle.promises.specs.Acts.{history_on_disks}

-- ---- A crash is an event of a line.

-- Some events of a line lead to this very world: both ends, the messages that were sent, their codes and what is
-- acknowledged; and they have this history. None of them is a crash: where an end starts again, it goes on from all
-- that it kept.
pub record IsALine {V : Type 0} (step : Step V) (taken : Taken V) (e : EncoderState V) (w : World V) (acts : List Act)
    : Type 0 where
  pub events : List Event
  pub fits : AllByRecursion Fits events
  pub same : run step taken e.address (start_from e) events ≡ w
  pub acts_are : history step taken (at_first e.value) events ≡ acts

-- So it is of every list of events and crashes, from an encoder that is ready and a new server.
abbrev pub CrashesAreLineEvents : {V : Type 0} → Step V → Taken V → Type 0
CrashesAreLineEvents {V} step taken =
    (e : EncoderState V) (before : ℕ) → IsReady e.ring → e.part ≡ Closed → (events : List DiskEvent)
    → AllByRecursion FitsOnDisks events
    → IsALine step taken e (run_on_disks step taken e.address (station_from e before) events).world
    (history_on_disks step taken e.address (station_from e before) events)

-- ---- The headline.

-- What the files hold. The encoder's is what is to be kept of it. Of the messages that were sent the server's has those
-- outstanding, under their counters, that it does not show to be acknowledged; it shows so what was told; and it counts
-- as taken from the input, besides those of before, each message that was sent, and no other, so that the next one
-- comes next.
pub record FilesHold {V : Type 0} (before : ℕ) (s : Station V) : Type 0 where
  pub encoder : s.encoder_file ≡ encoder_kept s.world.encoder
  pub outstanding : waiting_among s.server_file.held ≡ map (λ k. (counter_of k, message_at s.world.once.sent k))
      (missing (acknowledged_by s.server_file.held (length s.world.once.sent)) (length s.world.once.sent))
  pub told : (k : ℕ) → is_some (s.told k) ≡ true
      → acknowledged_by s.server_file.held (length s.world.once.sent) k ≡ true
  pub taken : s.server_file.taken ≡ before + length s.world.once.sent

-- The line of these ends and messages has the headline, with this history; what was told is acknowledged, so that it is
-- among the messages that the encoder's store has, and where it was told with a code, that is the message's own; and
-- the files hold what they should.
pub record HoldsWithDisks {V : Type 0} (step : Step V) (taken : Taken V) (e : EncoderState V) (before : ℕ)
    (s : Station V) (acts : List Act) : Type 0 where
  pub line : LineState V
  pub encoder : line.encoder ≡ s.world.encoder
  pub server : line.server ≡ s.world.server
  pub holds : Holds line s.world.once
  pub headline : IsHeadline step taken e.address e.value acts line
  pub told : (k : ℕ) → is_some (s.told k) ≡ true → is_acknowledged line k ≡ true
  pub code : (k : ℕ) (code : Code) → s.told k ≡ Some (Some code) → slice_get line.codes k ≡ Some code
  pub files : FilesHold before s

-- So it is over every list of events and crashes, from an encoder that is ready and a new server.
abbrev pub HeadlineWithDisks : {V : Type 0} → Step V → Taken V → Type 0
HeadlineWithDisks {V} step taken =
    (e : EncoderState V) (before : ℕ) → IsReady e.ring → e.part ≡ Closed → (events : List DiskEvent)
    → AllByRecursion FitsOnDisks events
    → HoldsWithDisks step taken e before (run_on_disks step taken e.address (station_from e before) events)
    (history_on_disks step taken e.address (station_from e before) events)

-- ---- No crash stops the line.

-- From two new ends, whatever happened and crashed: where nothing is lost any more, and no end crashes, every message
-- that was sent is acknowledged once the frame of each that is not came, and the reply to each.
abbrev pub AcknowledgedAfterAnyCrash : {V : Type 0} → Step V → Taken V → Type 0
AcknowledgedAfterAnyCrash {V} step taken =
    (address : ℕ) (value : V) (before : ℕ) (events : List DiskEvent) → AllByRecursion FitsOnDisks events
    → let s = run_on_disks step taken address (station_from (opening address value) before) events in
    IsDone (run_on_disks step taken address s
    (map Happens (all_come (missing s.world.once.acknowledged (length s.world.once.sent))))).world

-- ---- What `serve_with` says is a crash here.

-- The bytes that an event brings to the encoder.
abbrev pub bytes_to_encoder : {V : Type 0} → ℕ → Once V → Event → List ℕ
bytes_to_encoder address o (FrameComes k) = if is_none (refusal_of o (FrameComes k)) then spelling
    (frame_of address o k)
    else []
bytes_to_encoder address o (NoiseToEncoder x) = if is_none (refusal_of o (NoiseToEncoder x)) then x else []
bytes_to_encoder address o _ = []

-- What events bring to the encoder, one after another.
abbrev pub stream_of : {V : Type 0} → Step V → Taken V → ℕ → Station V → List Event → List ℕ
stream_of step taken address s [] = []
stream_of step taken address s (event ∷ events) =
    bytes_to_encoder address s.world.once event
    ++ stream_of step taken address (happens_on_disks step taken address s event) events

-- An event goes on while the encoder serves one connection: it neither ends that nor takes a group.
abbrev pub GoesOnServing : Event → Type 0
GoesOnServing EncoderLost = ⊥
GoesOnServing EncoderRestart = ⊥
GoesOnServing Take = ⊥
GoesOnServing _ = Unit {0}

-- The encoder crashes within an event, once so many of its bytes came, and before one that brings it none.
abbrev pub crash_within : Event → (came : ℕ) → DiskEvent
crash_within (FrameComes k) came = CutOff (FrameComes k) came true
crash_within (NoiseToEncoder x) came = CutOff (NoiseToEncoder x) came true
crash_within _ came = Happens EncoderRestart

-- The first n of these events happen, and within the next, if there is one, the encoder crashes.
abbrev pub crash_after : List Event → (n came : ℕ) → List DiskEvent
crash_after [] n came = Happens EncoderRestart ∷ []
crash_after (event ∷ events) zero came = crash_within event came ∷ []
crash_after (event ∷ events) (suc n) came = Happens event ∷ crash_after events n came

-- An encoder's file is what is to be kept of it. Whatever `serve_with` says that a crash may leave while the encoder
-- serves a connection over which events bring what comes, is its file after a crash within one of them; and so it is of
-- a take.
pub record LeavesACut {V : Type 0} (step : Step V) (taken : Taken V) (address : ℕ) (s : Station V) : Type 0 where
  pub serves : (events : List Event) (sent : List ℕ) (left : Kept V) → AllByRecursion GoesOnServing events
      → Outlives step s.world.encoder (stream_of step taken address s events) sent left
      → (n : ℕ) × (came : ℕ)
      × ((run_on_disks step taken address s (crash_after events n came)).encoder_file ≡ left)
  pub takes : (left : Kept V) → (left ≡ encoder_kept s.world.encoder)
      ⊎ (left ≡ encoder_kept (encoder_after step taken address s.world.once s.world.encoder Take))
      → (saved : Bool)
      × ((run_on_disks step taken address s (CutOff Take 0 saved ∷ [])).encoder_file ≡ left)

-- So it is from every station whose file holds its encoder.
abbrev pub WhatIsLeftIsACut : {V : Type 0} → Step V → Taken V → Type 0
WhatIsLeftIsACut {V} step taken = (address : ℕ) (s : Station V) → s.encoder_file ≡ encoder_kept s.world.encoder
    → LeavesACut step taken address s

-- ---- What `uecp_net` says is a crash here.

-- The messages of a batch are submitted, one after another.
abbrev pub submissions : List (List ℕ) → List DiskEvent
submissions batch = map (λ m. Happens (Submit m)) batch

-- The server is that of a sender, its file is what is to be kept of it, and it has come so far. A batch is submitted
-- that finds room, and then this happens, while the messages are on their way: the server is not saved, and becomes
-- that of another state of the sender. Whatever `uecp_net` says that a crash may leave of this is the file as it
-- was, or with the batch submitted, or after one more save; and so it is where there is no batch, as after a start.
pub record LeavesAFile {V C I O : Type 0} (step : Step V) (taken : Taken V) (address : ℕ) (s : Station V)
    (progress : Progress) (old new : SenderOver C I O) (batch : List (List ℕ)) (hearing : List DiskEvent) : Type 0 where
  pub sends : (left : KeptServer)
      → let between = run_on_disks step taken address s (submissions batch) in
      let after = run_on_disks step taken address between hearing in
      after.server_file ≡ between.server_file → after.world.server ≡ new.sender.server
      → OutlivesBatch progress (taking progress (length batch)) old (submitted_all old batch) new left
      → (left ≡ s.server_file) ⊎ (left ≡ between.server_file) ⊎ (left ≡ (server_saves after).server_file)
  pub settles : (left : KeptServer)
      → let after = run_on_disks step taken address s hearing in
      after.server_file ≡ s.server_file → after.world.server ≡ new.sender.server
      → OutlivesSettling progress old.sender.server new.sender.server left
      → (left ≡ s.server_file) ⊎ (left ≡ (server_saves after).server_file)

-- So it is from whatever events and crashes have led to.
abbrev pub WhatIsLeftIsAFile : {V : Type 0} → (C I O : Type 0) → Step V → Taken V → Type 0
WhatIsLeftIsAFile {V} C I O step taken =
    (e : EncoderState V) (before : ℕ) → IsReady e.ring → e.part ≡ Closed → (events : List DiskEvent)
    → AllByRecursion FitsOnDisks events
    → let s = run_on_disks step taken e.address (station_from e before) events in
    (progress : Progress) (old new : SenderOver C I O) (batch : List (List ℕ)) (hearing : List DiskEvent)
    → old.sender.server ≡ s.world.server → s.server_file ≡ server_kept progress s.world.server
    → AllByRecursion FitsOnDisks (submissions batch) → length s.world.server.held + length batch ≤ 8
    → LeavesAFile step taken e.address s progress old new batch hearing
