-- Both ends of a line, each with its file, and the bytes that are on their way between them, connection by connection;
-- a reader has to believe it. Source: profile.
use Rattle.std.specs.Prelude.{◌≡◌, ◌⊎◌, ℕ, ◌+◌, ◌≤◌, ◌&&◌, nat_lt, nat_le, not, Bool, true, false, List, [], ◌∷◌, ◌++◌}
use Rattle.std.specs.Prelude.{length, drop, Option, None, Ok, Err, if◌then◌else◌}
use Rattle.std.specs.Option.{option_or}
use Rattle.std.specs.Io.{StartsWith}
use Rattle.std.specs.List.{AllByRecursion}
use Rattle.uecp_elements.specs.declared.code.Code.{Code}
use Rattle.uecp_frame.specs.Address.{reaches}
use Rattle.uecp_frame.specs.Findings.{Finding, Closed}
use Rattle.uecp_frame.specs.Beyond.{found_beyond}
use Rattle.uecp_encoder.specs.Target.{Step, Taken}
use Rattle.uecp_encoder.specs.State.{EncoderState, fed}
use Rattle.uecp_encoder.specs.Answering.{answers}
use Rattle.uecp_encoder.specs.Keeping.{kept_of as encoder_kept, going_on as encoder_going_on}
use Rattle.uecp_link.specs.Counters.{counter_of}
use Rattle.uecp_link.specs.Server.{ServerState, submitted, heard}
use Rattle.uecp_link.specs.Window.{window_sent, marks_in, code_under}
use Rattle.uecp_net.specs.Sending.{Marks}
use Rattle.uecp_net.specs.Keeping.{KeptServer, taking}
use Rattle.uecp_net.specs.Keeping.{kept_of as server_kept, going_on as server_going_on}
use Rattle.promises.specs.Station.{progress_in}
use Rattle.promises.specs.DeviceLives.{Deed, TakesOne, deeds_of}

-- ---- What there is.

-- At the studio: the server in memory, and its file; the messages that it took, in order, of which the first so many
-- tell its station and the others are lines; whether the file has them all; and of each message, by its number from 0,
-- the code with which it was acknowledged, as heard since the server was started, and as told.
pub record Studio : Type 0 where
  pub server : ServerState
  pub file : KeptServer
  pub sent : List (List ℕ)
  pub station : ℕ
  pub is_saved : Bool
  pub heard : ℕ → Option Code
  pub told : ℕ → Option Code

-- At the transmitter: the encoder, of which its file has what is to be kept, and what was done to its store, in order.
pub record Transmitter (V : Type 0) : Type 0 where
  pub encoder : EncoderState V
  pub deeds : List Deed

-- Between them: of each connection that the encoder has not left, the oldest first, what was written on it to the
-- encoder and not read; whether the last of these is the one that the studio has; and what the encoder wrote on that
-- one, and the studio has not read.
pub record Between : Type 0 where
  pub coming : List (List ℕ)
  pub is_there : Bool
  pub going : List ℕ

-- All three.
pub record Ends (V : Type 0) : Type 0 where
  pub studio : Studio
  pub transmitter : Transmitter V
  pub between : Between

-- ---- What happens.

pub data EndEvent : Type 0 where
  -- at the studio
  SaysStation : List (List ℕ) → EndEvent  -- it takes these, which tell its station, and no file has them yet
  TakesLines : List (List ℕ) → EndEvent  -- it takes these lines, and its file has them, and all before
  Dials : EndEvent  -- it opens a connection
  Writes : EndEvent  -- it writes the frames of the messages that wait
  Hears : List ℕ → EndEvent  -- it reads these bytes
  Tells : EndEvent  -- it saves what it heard, and then tells it
  StudioCrashes : (saved : Bool) → EndEvent  -- it crashes, perhaps behind one more save, and goes on from its file
  -- at the transmitter
  Reads : List ℕ → EndEvent  -- the encoder reads these bytes, saves what they did, and writes its replies
  Leaves : EndEvent  -- it leaves its connection, and takes the next one
  EncoderCrashes : EndEvent  -- it crashes, and goes on from its file, on the next connection
  Gives : EndEvent  -- a group is taken from its store, and goes on the air
  Stranger : List ℕ → EndEvent  -- a connection that is nobody's here brings these bytes, and is over

-- ---- At the studio.

-- A server takes messages, one after another.
abbrev pub submitted_each : ServerState → List (List ℕ) → ServerState
submitted_each s [] = s
submitted_each s (m ∷ ms) = submitted_each (submitted s m) ms

-- A message of a number is one of the last eight of so many.
abbrev pub is_of_last : (sent : ℕ) → ℕ → Bool
is_of_last sent k = nat_lt k sent && nat_le sent (k + 8)

-- The codes by number, once these marks came: each of the last eight messages has the first with which its counter is
-- acknowledged.
abbrev pub heard_with : (sent : ℕ) → (heard : ℕ → Option Code) → Marks → ℕ → Option Code
heard_with sent heard marks k =
    if is_of_last sent k then option_or (heard k) (code_under (counter_of k) marks) else heard k

-- The server goes on from its file, as it is or once it was saved.
abbrev pub studio_restarts : Studio → (address : ℕ) → (file : KeptServer) → Studio
studio_restarts x address file = record x {
  server = server_going_on address file;
  file = file;
  is_saved = true;
  heard = λ k. None;
}

abbrev pub studio_after : Studio → EndEvent → Studio
studio_after x (SaysStation ms) = record x {
  server = submitted_each x.server ms;
  sent = x.sent ++ ms;
  station = x.station + length ms;
  is_saved = false;
}
studio_after x (TakesLines ms) =
    let server = submitted_each x.server ms in
    record x {
      server = server;
      file = server_kept (taking (progress_in x.file) (length ms)) server;
      sent = x.sent ++ ms;
      is_saved = true;
    }
studio_after x Dials = record x { server = record x.server { part = Closed } }
studio_after x (Hears bytes) = record x {
  server = heard x.server bytes;
  heard = heard_with (length x.sent) x.heard (marks_in x.server bytes);
}
studio_after x Tells = record x {
  file = server_kept (progress_in x.file) x.server;
  is_saved = true;
  told = λ k. option_or (x.told k) (x.heard k);
}
studio_after x (StudioCrashes false) = studio_restarts x x.server.address x.file
studio_after x (StudioCrashes true) = studio_restarts x x.server.address
    (server_kept (progress_in x.file) x.server)
studio_after x _ = x

-- ---- At the transmitter.

abbrev pub transmitter_after : {V : Type 0} → Step V → Taken V → Transmitter V → EndEvent → Transmitter V
transmitter_after step taken x (Reads bytes) = record {
  encoder = fed step x.encoder bytes;
  deeds = x.deeds ++ deeds_of step x.encoder bytes;
}
transmitter_after step taken x Leaves = record x { encoder = record x.encoder { part = Closed } }
transmitter_after step taken x EncoderCrashes = record x {
  encoder = encoder_going_on x.encoder.address (encoder_kept x.encoder);
}
transmitter_after step taken x Gives = record {
  encoder = record x.encoder { value = (taken x.encoder.value).0 };
  deeds = x.deeds ++ TakesOne ∷ [];
}
transmitter_after step taken x (Stranger bytes) = record x {
  encoder = record (fed step x.encoder bytes) { part = Closed };
}
transmitter_after step taken x _ = x

-- ---- Between them.

-- Bytes are written on the last connection.
abbrev pub written_on : List (List ℕ) → List ℕ → List (List ℕ)
written_on [] bytes = []
written_on (c ∷ []) bytes = (c ++ bytes) ∷ []
written_on (c ∷ d ∷ cs) bytes = c ∷ written_on (d ∷ cs) bytes

-- So many bytes are read of the first.
abbrev pub read_of : List (List ℕ) → ℕ → List (List ℕ)
read_of [] n = []
read_of (c ∷ cs) n = drop n c ∷ cs

-- The first is the studio's.
abbrev pub is_studios : Between → Bool
is_studios x = x.is_there && nat_lt (length x.coming) 2

-- The first is left.
abbrev pub left : Between → Between
left x = record { coming = drop 1 x.coming; is_there = x.is_there && not (is_studios x); going = x.going }

abbrev pub between_after : {V : Type 0} → Step V → Ends V → EndEvent → Between
between_after step x Dials = record { coming = x.between.coming ++ [] ∷ []; is_there = true; going = [] }
between_after step x Writes =
    if x.between.is_there
    then record x.between { coming = written_on x.between.coming (window_sent x.studio.server) }
    else x.between
between_after step x (Hears bytes) = record x.between { going = drop (length bytes) x.between.going }
between_after step x (StudioCrashes saved) = record x.between { is_there = false; going = [] }
between_after step x (Reads bytes) = record x.between {
  coming = read_of x.between.coming (length bytes);
  going =
      if is_studios x.between
      then x.between.going ++ answers step x.transmitter.encoder bytes
      else x.between.going;
}
between_after step x Leaves = left x.between
between_after step x EncoderCrashes = left x.between
between_after step x _ = x.between

-- ---- One after another.

abbrev pub ends_after : {V : Type 0} → Step V → Taken V → Ends V → EndEvent → Ends V
ends_after step taken x event = record {
  studio = studio_after x.studio event;
  transmitter = transmitter_after step taken x.transmitter event;
  between = between_after step x event;
}

abbrev pub run_ends : {V : Type 0} → Step V → Taken V → Ends V → List EndEvent → Ends V
run_ends step taken x [] = x
run_ends step taken x (event ∷ events) = run_ends step taken (ends_after step taken x event) events

-- The bytes are a beginning of what comes on the first connection.
abbrev pub ComeFirst : List (List ℕ) → List ℕ → Type 0
ComeFirst [] bytes = ⊥
ComeFirst (c ∷ cs) bytes = StartsWith c bytes

-- A finding is no numbered frame for the encoder at this address.
abbrev pub IsNotFor : (address : ℕ) → Finding → Type 0
IsNotFor address (Ok f) = (reaches f.address address ≡ false) ⊎ (f.counter ≡ 0)
IsNotFor address (Err fault) = Unit {0}

-- There is room for these messages at a studio's server, and each fits a frame.
abbrev pub AreTaken : Studio → List (List ℕ) → Type 0
AreTaken x ms = (length x.server.held + length ms ≤ 8) × AllByRecursion (λ m. length m ≤ 255) ms

-- What may happen. The studio takes what there is room for, and what fits a frame; its station before any line, and
-- where it crashes before its file has that, this is over: it begins anew. Each end reads a beginning of what the other
-- wrote, on the connection that it has. And a stranger's connection is there between two of ours, or two frames, and
-- brings no message for this encoder.
abbrev pub MayHappen : {V : Type 0} → Ends V → EndEvent → Type 0
MayHappen x (SaysStation ms) = (length x.studio.sent ≡ x.studio.station) × AreTaken x.studio ms
MayHappen x (TakesLines ms) = AreTaken x.studio ms
MayHappen x (StudioCrashes saved) = (x.studio.is_saved ≡ true) ⊎ (saved ≡ true)
MayHappen x (Hears bytes) = StartsWith x.between.going bytes
MayHappen x (Reads bytes) = ComeFirst x.between.coming bytes
MayHappen x (Stranger bytes) =
    (x.transmitter.encoder.part ≡ Closed)
    × AllByRecursion (IsNotFor x.transmitter.encoder.address) (found_beyond Closed bytes)
MayHappen x _ = Unit {0}

abbrev pub MayAll : {V : Type 0} → Step V → Taken V → Ends V → List EndEvent → Type 0
MayAll step taken x [] = Unit {0}
MayAll step taken x (event ∷ events) = MayHappen x event × MayAll step taken (ends_after step taken x event) events

-- A server for the encoder at this address that is new, but for what it counted: it sent nothing, and has nothing open.
pub record IsNewServer (address : ℕ) (s : ServerState) : Type 0 where
  pub at : s.address ≡ address
  pub last : s.last ≡ 0
  pub held : s.held ≡ []
  pub part : s.part ≡ Closed

-- At first: this encoder, and this server for it, whose file counts so many lines that were taken before; no connection
-- is there, and nothing was told.
abbrev pub ends_from : {V : Type 0} → EncoderState V → ServerState → (before : ℕ) → Ends V
ends_from e server before = record {
  studio = record {
    server = server;
    file = server_kept (record { taken = before; joined = true }) server;
    sent = [];
    station = 0;
    is_saved = true;
    heard = λ k. None;
    told = λ k. None;
  };
  transmitter = record { encoder = e; deeds = [] };
  between = record { coming = []; is_there = false; going = [] };
}

-- ---- Each end alone.

abbrev pub is_at_studio : EndEvent → Bool
is_at_studio (SaysStation ms) = true
is_at_studio (TakesLines ms) = true
is_at_studio Dials = true
is_at_studio Writes = true
is_at_studio (Hears bytes) = true
is_at_studio Tells = true
is_at_studio (StudioCrashes saved) = true
is_at_studio _ = false

-- Of what happens, that which is at the studio; and that which is at the transmitter.
abbrev pub at_studio : List EndEvent → List EndEvent
at_studio [] = []
at_studio (event ∷ events) = if is_at_studio event then event ∷ at_studio events else at_studio events

abbrev pub at_transmitter : List EndEvent → List EndEvent
at_transmitter [] = []
at_transmitter (event ∷ events) =
    if is_at_studio event then at_transmitter events else event ∷ at_transmitter events

abbrev pub run_studio : Studio → List EndEvent → Studio
run_studio x [] = x
run_studio x (event ∷ events) = run_studio (studio_after x event) events

abbrev pub run_transmitter : {V : Type 0} → Step V → Taken V → Transmitter V → List EndEvent → Transmitter V
run_transmitter step taken x [] = x
run_transmitter step taken x (event ∷ events) =
    run_transmitter step taken (transmitter_after step taken x event) events
