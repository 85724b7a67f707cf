-- What reached the encoder's target over events and crashes, in order; a reader has to believe it. Source: profile.
use Rattle.std.specs.Prelude.{ℕ, nat_lt, Bool, true, List, [], ◌∷◌, ◌++◌, length, is_none, if◌then◌else◌}
use Rattle.uecp_frame.specs.Frame.{spelling}
use Rattle.uecp_encoder.specs.Target.{Step, Taken}
use Rattle.uecp_link.specs.Once.{Event, FrameComes, Take, Once, refusal_of, answer_of}
use Rattle.uecp_link.specs.History.{Act, act_of}
use Rattle.uecp_link.specs.Law.{frame_of}
use Rattle.promises.specs.Station.{Station, DiskEvent, Happens, CutOff, ServerSaves, ServerCut, after_disk_event}

-- What an event brings within which its end crashes: what it brings of itself where a frame came to its end, or a group
-- was taken, and that was saved; and else nothing.
abbrev pub brought_by_cut : {V : Type 0} → Step V → Taken V → ℕ → Once V → Event → (came : ℕ) → (saved : Bool)
    → List Act
brought_by_cut step taken address o (FrameComes k) came true =
    if nat_lt came (length (spelling (frame_of address o k)))
    then []
    else act_of (FrameComes k) (answer_of step taken o (FrameComes k))
brought_by_cut step taken address o Take came true = act_of Take (answer_of step taken o Take)
brought_by_cut step taken address o _ came saved = []

-- What an event brings: of the line what it brings in `history` of `uecp_link`, nothing where it is refused; and a save
-- of the server nothing, whether or not it crashes then.
abbrev pub brought_by : {V : Type 0} → Step V → Taken V → ℕ → Station V → DiskEvent → List Act
brought_by step taken address s (Happens event) =
    if is_none (refusal_of s.world.once event) then act_of event (answer_of step taken s.world.once event) else []
brought_by step taken address s (CutOff event came saved) =
    if is_none (refusal_of s.world.once event)
    then brought_by_cut step taken address s.world.once event came saved
    else []
brought_by step taken address s ServerSaves = []
brought_by step taken address s ServerCut = []

-- The history over events and crashes.
abbrev pub history_on_disks : {V : Type 0} → Step V → Taken V → ℕ → Station V → List DiskEvent → List Act
history_on_disks step taken address s [] = []
history_on_disks step taken address s (event ∷ events) =
    brought_by step taken address s event
    ++ history_on_disks step taken address (after_disk_event step taken address s event) events
