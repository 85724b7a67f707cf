-- A line both of whose ends keep their state in a file, and what may happen to it, crashes too; a reader has to believe
-- it. Source: profile.
use Rattle.std.specs.Prelude.{ℕ, ◌-◌, ◌==◌, ◌||◌, ◌&&◌, not, nat_lt, Bool, true, false, List, [], ◌∷◌, length, take}
use Rattle.std.specs.Prelude.{is_none, Option, Some, None, if◌then◌else◌}
use Rattle.uecp_elements.specs.declared.code.Code.{Code}
use Rattle.uecp_frame.specs.Frame.{spelling}
use Rattle.uecp_encoder.specs.Target.{Step, Taken}
use Rattle.uecp_encoder.specs.State.{EncoderState, fed}
use Rattle.uecp_encoder.specs.Answering.{responses_to}
use Rattle.uecp_link.specs.Server.{ServerState, Held, is_marked, idle_at, submitted}
use Rattle.uecp_link.specs.Once.{Event, Submit, FrameComes, ReplyComes, NoiseToEncoder, NoiseToServer}
use Rattle.uecp_link.specs.Once.{ServerLost, EncoderRestart, ServerRestart, Take, Once, refusal_of, after}
use Rattle.uecp_link.specs.Law.{World, frame_of, encoder_after, server_after, start_from, Fits}
use Rattle.uecp_encoder.specs.ServingWith.{fresh_among}
use Rattle.uecp_encoder.specs.Keeping.{Kept}
use Rattle.uecp_encoder.specs.Keeping.{kept_of as encoder_kept, going_on as encoder_going_on}
use Rattle.uecp_net.specs.declared.saved.keep.Progress.{Progress}
use Rattle.uecp_net.specs.Keeping.{KeptServer, taking}
use Rattle.uecp_net.specs.Keeping.{kept_of as server_kept, going_on as server_going_on}

-- The two ends with the once-machine beside them, what the file of each end holds, and by number: the code with which a
-- message was acknowledged, as far as the server heard that since it was started; and what its user was told of it,
-- nothing yet, or that it is acknowledged, with its code, or with none, where a crash took that.
pub record Station (V : Type 0) : Type 0 where
  pub world : World V
  pub encoder_file : Kept V
  pub server_file : KeptServer
  pub heard : ℕ → Option Code
  pub told : ℕ → Option (Option Code)

-- What may happen. A crash takes an end's memory, and then an end goes on from the file.
pub data DiskEvent : Type 0 where
  Happens : Event → DiskEvent  -- an event of the line; the restart of an end is a crash between two events
  CutOff : Event → (came : ℕ) → (saved : Bool) → DiskEvent  -- within an event the end that it is at crashes
  ServerSaves : DiskEvent  -- the server is saved, and then what is acknowledged is told
  ServerCut : DiskEvent  -- the server is saved, and crashes before anything of that is told

-- ---- What the files hold.

-- An encoder's file after these bytes: it is saved where a reply to them is fresh, before that leaves, and else not.
abbrev pub saved_for : {V : Type 0} → Step V → EncoderState V → Kept V → List ℕ → Kept V
saved_for step e file bytes = if fresh_among (responses_to step e bytes)
    == 0 then file else encoder_kept (fed step e bytes)

-- And after an event: it is saved after a take too, before the group is handed out.
abbrev pub encoder_file_after : {V : Type 0} → Step V → Taken V → ℕ → World V → Kept V → Event → Kept V
encoder_file_after step taken address w file (FrameComes k) = saved_for step w.encoder file
    (spelling (frame_of address w.once k))
encoder_file_after step taken address w file (NoiseToEncoder x) = saved_for step w.encoder file x
encoder_file_after step taken address w file Take =
    encoder_kept (encoder_after step taken address w.once w.encoder Take)
encoder_file_after step taken address w file _ = file

-- How far a server's file says that it has come.
abbrev pub progress_in : KeptServer → Progress
progress_in file = record { taken = file.taken; joined = file.joined }

-- A server's file after an event: it is saved with a message that is submitted, before its frame leaves. What is heard
-- is not saved by that.
abbrev pub server_file_after : ServerState → KeptServer → Event → KeptServer
server_file_after s file (Submit m) = server_kept (taking (progress_in file) 1) (submitted s m)
server_file_after s file _ = file

-- What is acknowledged where a server holds these of so many messages: those that it holds no more, or holds marked.
abbrev pub acknowledged_by : (held : List Held) → (sent : ℕ) → ℕ → Bool
acknowledged_by held sent k = nat_lt k (sent - length held) || is_marked held (k - (sent - length held))

-- ---- What the server hears, and tells.

-- The codes that the server heard, after an event: that of a reply by which a message is acknowledged, and no other's.
abbrev pub heard_after : {V : Type 0} → Once V → (ℕ → Option Code) → Event → ℕ → Option Code
heard_after o heard (ReplyComes k) = λ j. if j == k && not (o.acknowledged k) then o.codes k else heard j
heard_after o heard _ = heard

-- What is told of a message behind a save: of one that is acknowledged, its code as far as it was heard. Of each it is
-- told once.
abbrev pub told_after : (before : Option (Option Code)) → (acknowledged : Bool) → (heard : Option Code)
    → Option (Option Code)
told_after (Some told) acknowledged heard = Some told
told_after None true heard = Some heard
told_after None false heard = None

-- ---- What happens.

-- The ends and the once-machine after an event that is not refused, as `happens` of `uecp_link` says.
abbrev pub world_after : {V : Type 0} → Step V → Taken V → ℕ → World V → Event → World V
world_after step taken address w event = record {
  encoder = encoder_after step taken address w.once w.encoder event;
  server = server_after address w.once w.server event;
  once = after step taken w.once event;
}

-- The station after an event of the line that is not refused: the ends as above, their files, and what was heard.
abbrev pub station_after : {V : Type 0} → Step V → Taken V → ℕ → Station V → Event → Station V
station_after step taken address s event = record {
  world = world_after step taken address s.world event;
  encoder_file = encoder_file_after step taken address s.world s.encoder_file event;
  server_file = server_file_after s.world.server s.server_file event;
  heard = heard_after s.world.once s.heard event;
  told = s.told;
}

-- The encoder crashes, and goes on from its file: its memory is lost, and so is what was open towards it.
abbrev pub encoder_crashes : {V : Type 0} → ℕ → Station V → Station V
encoder_crashes address s = record s {
  world = record s.world {
    encoder = encoder_going_on address s.encoder_file;
    once = record s.world.once { to_encoder = [] };
  };
}

-- The server crashes, and goes on from its file: acknowledged is what the file shows to be, and no more; no file has a
-- code.
abbrev pub server_crashes : {V : Type 0} → ℕ → Station V → Station V
server_crashes address s = record s {
  world = record s.world {
    server = server_going_on address s.server_file;
    once = record s.world.once {
      acknowledged = acknowledged_by s.server_file.held (length s.world.once.sent);
      to_server = [];
    };
  };
  heard = λ k. None;
}

-- The server is saved as it is.
abbrev pub server_saved : {V : Type 0} → Station V → Station V
server_saved s = record s { server_file = server_kept (progress_in s.server_file) s.world.server }

-- It is saved as it is, and then what is acknowledged is told.
abbrev pub server_saves : {V : Type 0} → Station V → Station V
server_saves s = record (server_saved s) {
  told = λ k. told_after (s.told k) (acknowledged_by s.world.server.held (length s.world.once.sent) k) (s.heard k);
}

-- Of bytes that come to the encoder these came, and what had to be saved for them was.
abbrev pub encoder_took : {V : Type 0} → Step V → Station V → List ℕ → Station V
encoder_took step s bytes = record s { encoder_file = saved_for step s.world.encoder s.encoder_file bytes }

-- The end that an event is at crashes within it, once so many of its bytes came, and goes on from its file. A message
-- that the encoder took, and whose reply is not yet saved, is in no file, and of its reply no byte left; so it is with
-- a take, and with a message that is submitted. Of a frame that came to its end the once-machine knows that it was
-- delivered. What the server hears within an event is not saved.
abbrev pub cut_off : {V : Type 0} → Step V → Taken V → ℕ → Station V → Event → (came : ℕ) → (saved : Bool) → Station V
cut_off step taken address s (FrameComes k) came true =
    let bytes = spelling (frame_of address s.world.once k) in
    encoder_crashes address
    (if nat_lt came (length bytes)
    then encoder_took step s (take came bytes)
    else station_after step taken address s (FrameComes k))
cut_off step taken address s (NoiseToEncoder x) came true = encoder_crashes address (encoder_took step s (take came x))
cut_off step taken address s Take came true = encoder_crashes address (station_after step taken address s Take)
cut_off step taken address s (Submit m) came true = server_crashes address
    (station_after step taken address s (Submit m))
cut_off step taken address s (Submit m) came false = server_crashes address s
cut_off step taken address s (ReplyComes k) came saved = server_crashes address s
cut_off step taken address s (NoiseToServer x) came saved = server_crashes address s
cut_off step taken address s ServerLost came saved = server_crashes address s
cut_off step taken address s ServerRestart came saved = server_crashes address s
cut_off step taken address s _ came saved = encoder_crashes address s

-- An event of the line, where each restart is a crash; nothing where the once-machine refuses it.
abbrev pub happens_on_disks : {V : Type 0} → Step V → Taken V → ℕ → Station V → Event → Station V
happens_on_disks step taken address s EncoderRestart = encoder_crashes address s
happens_on_disks step taken address s ServerRestart = server_crashes address s
happens_on_disks step taken address s event = if is_none (refusal_of s.world.once event)
    then station_after step taken address s event
    else s

-- The station after an event, a crash or a save.
abbrev pub after_disk_event : {V : Type 0} → Step V → Taken V → ℕ → Station V → DiskEvent → Station V
after_disk_event step taken address s (Happens event) = happens_on_disks step taken address s event
after_disk_event step taken address s (CutOff event came saved) = if is_none (refusal_of s.world.once event)
    then cut_off step taken address s event came saved
    else s
after_disk_event step taken address s ServerSaves = server_saves s
after_disk_event step taken address s ServerCut = server_crashes address (server_saved s)

-- Events happen in turn.
abbrev pub run_on_disks : {V : Type 0} → Step V → Taken V → ℕ → Station V → List DiskEvent → Station V
run_on_disks step taken address s [] = s
run_on_disks step taken address s (event ∷ events) =
    run_on_disks step taken address (after_disk_event step taken address s event) events

-- This encoder and a new server for it, each as its file has it; so many lines were taken before, as by servers before
-- this one, and nothing is told.
abbrev pub station_from : {V : Type 0} → EncoderState V → (before : ℕ) → Station V
station_from e before = record {
  world = start_from e;
  encoder_file = encoder_kept e;
  server_file = server_kept (record { taken = before; joined = true }) (idle_at e.address);
  heard = λ k. None;
  told = λ k. None;
}

-- A message that is submitted fits a frame.
abbrev pub FitsOnDisks : DiskEvent → Type 0
FitsOnDisks (Happens event) = Fits event
FitsOnDisks (CutOff event came saved) = Fits event
FitsOnDisks ServerSaves = Unit {0}
FitsOnDisks ServerCut = Unit {0}
