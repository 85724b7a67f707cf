-- What the calls do that the program makes, as events of both ends and the bytes between them. Source: profile.
use Rattle.std.specs.Prelude.{◌≡◌, ◌⊎◌, ℕ, zero, suc, ◌+◌, ◌≤◌, true, false, List, [], ◌∷◌, ◌++◌, length, map, Bool}
use Rattle.std.specs.Prelude.{Option, Some, None}
use Rattle.std.specs.Io.KnownBytes.{Appends}
use Rattle.std.specs.Prelude.{Result, Ok, Err}
use Rattle.std.specs.Option.{option_or}
use Rattle.std.specs.List.{AllByRecursion}
use Rattle.uecp_elements.specs.declared.code.Code.{Code}
use Rattle.uecp_encoder.specs.Target.{Step, Taken}
use Rattle.uecp_frame.specs.Findings.{Closed}
use Rattle.uecp_encoder.specs.State.{EncoderState, fed}
use Rattle.uecp_link.specs.Joining.{BringsBoth, IsOver}
use Rattle.uecp_link.specs.Kept.{IsReady, last_counter}
use Rattle.uecp_net.specs.SavedJoining.{Joins}
use Rattle.uecp_link.specs.Counters.{counter_of}
use Rattle.uecp_link.specs.Server.{ServerState, counters_waiting, waiting}
use Rattle.uecp_net.specs.declared.sender.Outstanding.{Outstanding as Reason}
use Rattle.uecp_net.specs.declared.sender.Settled.{Settled}
use Rattle.uecp_net.specs.declared.saved.keep.Progress.{Progress}
use Rattle.uecp_net.specs.declared.saved.batch.KeptOutstanding.TheVariants.{Outstanding}
use Rattle.uecp_net.specs.Sending.{SenderOver, Marks, Delivers, AreTold, submitted_all}
use Rattle.uecp_net.specs.Keeping.{KeptServer, IsKept, kept_of, going_on, taking}
use Rattle.uecp_net.specs.SavedSending.{Ended, SettlesKept, SendsKept, Outlives, OutlivesBatch}
use Rattle.kept_jobs.specs.Stops.{Went}
use Rattle.kept_jobs.specs.ServerRun.{Standing}
use Rattle.output_forms.specs.declared.form.Form.{Form}
use Rattle.line_batches.specs.declared.taking.After.{After}
use Rattle.line_batches.specs.declared.taking.After.TheVariants.{GoesOn}
use Rattle.sending.specs.declared.options.LiveOptions.{LiveOptions}
use Rattle.sending.specs.declared.account.Account.TheVariants.{Numbered}
use Rattle.sending.specs.Accounts.{AreReplies}
use Rattle.sending.specs.Run.{GoesOnFor, Live, RunsOn, run_of}
use Rattle.promises.specs.Taken.{AreBatches}
use Rattle.promises.specs.Sent.{IsOut}
use Rattle.promises.specs.DeviceLives.{DeviceEvent, Deed, DeviceLives}
use Rattle.promises.specs.Ends.{Studio, Transmitter, EndEvent, TakesLines, Dials, Writes, Hears, Tells, StudioCrashes}
use Rattle.promises.specs.Ends.{IsNewServer, is_at_studio, is_of_last, heard_with, studio_after, run_studio}
use Rattle.promises.specs.Ends.{run_transmitter, ends_from, run_ends, MayAll}

-- ---- At the studio.

-- The event is on a connection.
abbrev pub IsOnConnection : EndEvent → Type 0
IsOnConnection Dials = Unit {0}
IsOnConnection Writes = Unit {0}
IsOnConnection (Hears bytes) = Unit {0}
IsOnConnection _ = ⊥

-- Connections were dialled, frames written that wait, and bytes heard: so the server became this one, and these marks
-- came, by which codes were heard. Nothing else changed.
pub record GoesOver (x : Studio) (server : ServerState) (marks : Marks) : Type 0 where
  pub events : List EndEvent
  pub on : AllByRecursion IsOnConnection events
  pub leads : run_studio x events ≡ record x {
    server = server;
    heard = heard_with (length x.sent) x.heard marks;
  }

-- What waited went over connections, and was saved and told: so the server and its file became these, and by the marks
-- that came the codes were heard that were told.
pub record SettlesAs (x : Studio) (server : ServerState) (file : KeptServer) (marks : Marks) : Type 0 where
  pub over : List EndEvent
  pub on : AllByRecursion IsOnConnection over
  pub leads : let heard = heard_with (length x.sent) x.heard marks in
      run_studio x (over ++ Tells ∷ []) ≡ record x {
        server = server;
        file = file;
        is_saved = true;
        heard = heard;
        told = λ k. option_or (x.told k) (heard k);
      }

-- It crashed within that, with what went over connections done or not, perhaps behind the save; and goes on from this
-- file.
pub record CrashesAs (x : Studio) (left : KeptServer) : Type 0 where
  pub over : List EndEvent
  pub on : AllByRecursion IsOnConnection over
  pub saved : Bool
  pub leads : run_studio x (over ++ StudioCrashes saved ∷ []) ≡ record x {
    server = going_on x.server.address left;
    file = left;
    is_saved = true;
    heard = λ k. None;
  }

-- A number is of the last eight, and nothing was heard or told of it.
pub record IsUntold (x : Studio) (k : ℕ) : Type 0 where
  pub of_last : is_of_last (length x.sent) k ≡ true
  pub unheard : x.heard k ≡ None
  pub untold : x.told k ≡ None

-- Law: whatever `Delivers` says of connections, and `SettlesKept`, `SendsKept` and what they leave of calls of
-- `settle_kept` and `send_kept` (the clauses of `uecp_net` by which the program sends), is done by such events of a
-- studio that has that server and file: where a batch is sent, behind the event that its lines are taken; and what is
-- told is the code of the first mark under each counter.
module _ {C I O K : Type 0} (opens : C → Option (I × O) → C → Type 0) (closes : C → I → O → C → Type 0)
    (remaining : I → Option (List ℕ)) (contents : O → Option (List ℕ)) (saves fails : K → KeptServer → K → Type 0) where
  -- A studio has a sender's server, and what is kept of it.
  pub record HasServer (x : Studio) (progress : Progress) (s : SenderOver C I O) : Type 0 where
    pub server : x.server ≡ s.sender.server
    pub file : x.file ≡ kept_of progress s.sender.server

  pub record StudioDoes : Type 0 where
    pub delivers : (x : Studio) (ended : ℕ) (before : Reason) (old new : SenderOver C I O) (marks marks' : Marks)
        (result : Result ℕ Reason) → x.server ≡ old.sender.server
        → Delivers opens closes remaining contents ended before old new marks marks' result
        → (more : Marks) × (marks' ≡ marks ++ more) × GoesOver x new.sender.server more
    pub settles : (x : Studio) (progress : Progress) (old new : SenderOver C I O) (k k' : K) (settled : Settled)
        → HasServer x progress old
        → SettlesKept opens closes remaining contents saves fails progress old new k k' (Ok settled)
        → (marks : Marks) × SettlesAs x new.sender.server (kept_of progress new.sender.server) marks
        × AreTold old.sender.server marks settled.codes.items
    -- by numbers: where those of what waits are of the last eight, and nothing was heard or told of them, that they are
    -- told these codes is what the studio then told
    pub tells : (x : Studio) (server : ServerState) (marks : Marks) (codes : List Code) (ks : List ℕ)
        → AreTold server marks codes → counters_waiting server ≡ map counter_of ks → AllByRecursion (IsUntold x) ks
        → map Some codes ≡ map (λ k. option_or (x.told k) (heard_with (length x.sent) x.heard marks k)) ks
    pub settles_not : (x : Studio) (progress : Progress) (old new : SenderOver C I O) (k k' : K) (reason : Reason)
        → HasServer x progress old
        → SettlesKept opens closes remaining contents saves fails progress old new k k' (Err (Outstanding reason))
        → (marks : Marks) × SettlesAs x new.sender.server (kept_of progress new.sender.server) marks
    pub crashes : (x : Studio) (progress : Progress) (old new : SenderOver C I O) (k k' : K) (ended : Ended)
        (left : KeptServer) → HasServer x progress old
        → SettlesKept opens closes remaining contents saves fails progress old new k k' ended
        → Outlives progress old.sender.server new.sender.server left → CrashesAs x left
    -- a batch: its lines are taken, and then what waits is settled
    pub takes : (x : Studio) (progress : Progress) (old : SenderOver C I O) (batch : List (List ℕ))
        → HasServer x progress old
        → HasServer (studio_after x (TakesLines batch)) (taking progress (length batch)) (submitted_all old batch)
    pub sends : (progress : Progress) (old new : SenderOver C I O) (k k' : K) (settled : Settled)
        → SendsKept opens closes remaining contents saves fails progress old new k k' (Ok settled)
        → (between : K) × SettlesKept opens closes remaining contents saves fails progress old new between k'
        (Ok settled)
    pub crashes_sending : (x : Studio) (progress : Progress) (old new : SenderOver C I O) (batch : List (List ℕ))
        (k k' : K) (ended : Ended) (left : KeptServer) → HasServer x progress old
        → SendsKept opens closes remaining contents saves fails (taking progress (length batch))
        (submitted_all old batch) new k k' ended
        → OutlivesBatch progress (taking progress (length batch)) old (submitted_all old batch) new left
        → CrashesAs x left ⊎ CrashesAs (studio_after x (TakesLines batch)) left

-- ---- A whole run at the studio, behind its beginning.

-- Events at the studio lead to this server and file, and these lines more were taken.
pub record RunsAs (x : Studio) (lines : List (List ℕ)) (server : ServerState) (file : KeptServer) : Type 0 where
  pub events : List EndEvent
  pub at : AllByRecursion (λ event. is_at_studio event ≡ true) events
  pub server_is : (run_studio x events).server ≡ server
  pub file_is : (run_studio x events).file ≡ file
  pub sent : (run_studio x events).sent ≡ x.sent ++ lines

-- The lines of batches, one behind another.
abbrev pub lines_of : List (List (List ℕ)) → List (List ℕ)
lines_of [] = []
lines_of (batch ∷ batches) = batch ++ lines_of batches

-- Law: a run of `send`, once its encoder was joined or has not to be (`RunsOn`), however it ended, is such events of a
-- studio that has the server and the file with which it begins: of the batches that it took, one after another; and
-- whatever a crash leaves of it is the file behind such events, with some first of these lines taken.
module _ {T C I O K : Type 0} (takes : (size : ℕ) → (messages : List (List ℕ)) → After → T → T → Type 0)
    (opens : C → Option (I × O) → C → Type 0) (closes : C → I → O → C → Type 0)
    (remaining : I → Option (List ℕ)) (contents : O → Option (List ℕ)) (leaves : K → KeptServer → Type 0)
    (is_clean : K → Type 0) (saves fails : K → KeptServer → K → Type 0) where
  pub record RunIsEvents (options : LiveOptions) (u : Studio) (x x' : Live T (SenderOver C I O) K) (went : Went) : Type
      0 where
    pub batches : List (List (List ℕ))
    pub are : AreBatches (takes options.reading.size) batches x.takes x'.takes
    pub done : went ≡ Ok tt → RunsAs u (lines_of batches) x'.sends.runs.sender.server
        (kept_of x'.sends.progress x'.sends.runs.sender.server)
    pub crashes : IsKept (leaves x.sends.keeper) x.sends.progress x.sends.runs.sender.server
        → is_clean x'.sends.keeper → (left : KeptServer) → leaves x'.sends.keeper left
        → (some : List (List ℕ)) × (more : List (List ℕ)) × (lines_of batches ≡ some ++ more)
        × RunsAs u some (going_on u.server.address left) left

  abbrev pub RunsAreEvents : Type 0
  RunsAreEvents =
      (options : LiveOptions) (u : Studio) (x x' : Live T (SenderOver C I O) K) (went : Went)
      → u.server ≡ x.sends.runs.sender.server → u.file ≡ kept_of x.sends.progress x.sends.runs.sender.server
      → RunsOn takes opens closes remaining contents leaves is_clean saves fails (run_of options) GoesOn x x' went
      → RunIsEvents options u x x' went

-- ---- What a run tells, by number.

-- A studio counts as its server does: the last counter is that of its last message; and of none that is to come
-- anything was heard or told.
pub record IsNumbered (x : Studio) : Type 0 where
  pub last : x.server.last ≡ last_counter (length x.sent)
  pub heard : (k : ℕ) → length x.sent ≤ k → x.heard k ≡ None
  pub told : (k : ℕ) → length x.sent ≤ k → x.told k ≡ None

-- Law: so does each, whatever happened.
abbrev pub EachIsNumbered : {V : Type 0} → Step V → Taken V → Type 0
EachIsNumbered {V} step taken =
    (e : EncoderState V) (server : ServerState) (before : ℕ) → IsReady e.ring → e.part ≡ Closed
    → IsNewServer e.address server → (events : List EndEvent) → MayAll step taken (ends_from e server before) events
    → IsNumbered (run_ends step taken (ends_from e server before) events).studio

-- So many numbers, from one on.
abbrev pub numbers_from : (first count : ℕ) → List ℕ
numbers_from first zero = []
numbers_from first (suc count) = first ∷ numbers_from (suc first) count

module _ {C I O K : Type 0} (opens : C → Option (I × O) → C → Type 0) (closes : C → I → O → C → Type 0)
    (remaining : I → Option (List ℕ)) (contents : O → Option (List ℕ)) (saves fails : K → KeptServer → K → Type 0) where
  -- Events at a studio of which no message waits take this batch, and tell it: behind them all is so again. What the
  -- writer got are the lines of these messages, each under its number in the file, with the codes that the studio then
  -- has told of them.
  pub record TellsBatch (form : Form) (x : Studio) (batch : List (List ℕ)) (s s' : Standing (SenderOver C I O) K) : Type
      0 where
    pub events : List EndEvent
    pub at : AllByRecursion (λ event. is_at_studio event ≡ true) events
    pub behind : Studio
    pub leads : run_studio x events ≡ behind
    pub has : HasServer opens closes remaining contents saves fails behind s'.progress s'.runs
    pub sent : behind.sent ≡ x.sent ++ batch
    pub numbered : IsNumbered behind
    pub idle : behind.server.held ≡ []
    pub settled : Settled
    pub codes : map Some settled.codes.items ≡ map behind.told (numbers_from (length x.sent) (length batch))
    pub lines : List ℕ
    pub are : AreReplies (Numbered form) (x.file.taken + 1) (waiting (submitted_all s.runs batch).sender.server) settled
        lines
    pub got : Appends s.held s'.held lines

  -- Turn by turn, each from where the one before ended: nothing was taken, or a batch was told so.
  abbrev pub TellsTurns : (form : Form) → (turns : ℕ) → (x x' : Studio) → (s s' : Standing (SenderOver C I O) K)
      → Type 0
  TellsTurns form zero x x' s s' = (x' ≡ x) × (s' ≡ s)
  TellsTurns form (suc turns) x x' s s' =
      (y : Studio) × (r : Standing (SenderOver C I O) K) × TellsTurns form turns x y s r
      × (((x' ≡ y) × (s' ≡ r))
      ⊎ ((batch : List (List ℕ)) × (told : TellsBatch form y batch r s') × (x' ≡ told.behind)))

-- Law: so it is of the turns of a run from a studio of which no message waits, of batches of at most eight; and such a
-- studio is left.
module _ {T C I O K : Type 0} (takes : (messages : List (List ℕ)) → After → T → T → Type 0)
    (opens : C → Option (I × O) → C → Type 0) (closes : C → I → O → C → Type 0)
    (remaining : I → Option (List ℕ)) (contents : O → Option (List ℕ)) (leaves : K → KeptServer → Type 0)
    (is_clean : K → Type 0) (saves fails : K → KeptServer → K → Type 0) where
  pub record RunTells (form : Form) (turns : ℕ) (x : Studio) (s s' : Standing (SenderOver C I O) K) : Type 0 where
    pub behind : Studio
    pub tells : TellsTurns opens closes remaining contents saves fails form turns x behind s s'
    pub has : HasServer opens closes remaining contents saves fails behind s'.progress s'.runs
    pub numbered : IsNumbered behind
    pub idle : behind.server.held ≡ []

  abbrev pub RunsTell : Type 0
  RunsTell =
      (form : Form) (turns : ℕ) (u : Studio) (x x' : Live T (SenderOver C I O) K)
      → HasServer opens closes remaining contents saves fails u x.sends.progress x.sends.runs → IsNumbered u
      → u.server.held ≡ []
      → ((messages : List (List ℕ)) (after : After) (t t' : T) → takes messages after t t' → length messages ≤ 8)
      → GoesOnFor takes opens closes remaining contents leaves is_clean saves fails (Numbered form) turns x x'
      → RunTells form turns u x.sends x'.sends

-- ---- A beginning anew.

-- A server joined its encoder: on the last connection it read these bytes, which bring the replies to 81 and then FF.
-- And where on that connection all is over, as `joined_over_a_line` of `uecp_link` says of one that keeps the order of
-- each direction and loses nothing but its end, a stretch begins: the server is new, but for what it counted; the
-- encoder, which got these bytes of the pass, is ready, with nothing open, and has its store as it was; and nothing is
-- on its way.
pub record JoinBegins {V C I O : Type 0} (step : Step V) (s s' : SenderOver C I O) : Type 0 where
  pub read : List ℕ
  pub brings : BringsBoth s.sender.server.address read
  pub server : (e : EncoderState V) (got coming unread : List ℕ) → IsOver step e got coming read unread
      → IsNewServer s.sender.server.address s'.sender.server
  pub encoder : (e : EncoderState V) (got coming unread : List ℕ) → IsOver step e got coming read unread
      → IsReady (fed step e got).ring × ((fed step e got).part ≡ Closed) × ((fed step e got).value ≡ e.value)
      × (coming ≡ []) × (unread ≡ [])

-- Law: so whatever `Joins` says (the clause by which the program joins) begins a stretch.
abbrev pub JoinsBegin : {V C I O : Type 0} → Step V → (opens : C → Option (I × O) → C → Type 0)
    → (closes : C → I → O → C → Type 0) → (remaining : I → Option (List ℕ)) → (contents : O → Option (List ℕ)) → Type 0
JoinsBegin {V} {C} {I} {O} step opens closes remaining contents =
    (s s' : SenderOver C I O) → Joins opens closes remaining contents s s' (Ok tt) → JoinBegins step s s'

-- Events at the studio say these messages, which tell its station, and lead to this server; no file has them yet, until
-- the next save.
pub record SaysAs (x : Studio) (station : List (List ℕ)) (server : ServerState) : Type 0 where
  pub events : List EndEvent
  pub at : AllByRecursion (λ event. is_at_studio event ≡ true) events
  pub server_is : (run_studio x events).server ≡ server
  pub file_is : (run_studio x events).file ≡ x.file
  pub sent : (run_studio x events).sent ≡ x.sent ++ station
  pub counted : (run_studio x events).station ≡ x.station + length station

-- Law: a station that went out, as `station_is_out` says of a run, begins so: with its join, and then with such events.
abbrev pub StationBegins : {V C I O : Type 0} → Step V → (opens : C → Option (I × O) → C → Type 0)
    → (closes : C → I → O → C → Type 0) → (remaining : I → Option (List ℕ)) → (contents : O → Option (List ℕ)) → Type 0
StationBegins {V} {C} {I} {O} step opens closes remaining contents =
    (station : List (List ℕ)) (told : List Code) (s s' : SenderOver C I O)
    → (out : IsOut opens closes remaining contents station told s s')
    → JoinBegins step s out.begins
    × ((x : Studio) → x.server ≡ out.begins.sender.server → SaysAs x station s'.sender.server)

-- ---- At the transmitter.

-- Law: the days of an encoder, which the clauses of the calls that serve it come to, are such events at its end.
pub record TransmitterDoes {V : Type 0} (step : Step V) (taken : Taken V) (x : Transmitter V) (deeds : List Deed)
    (e' : EncoderState V) : Type 0 where
  pub events : List EndEvent
  pub at : AllByRecursion (λ event. is_at_studio event ≡ false) events
  pub leads : run_transmitter step taken x events ≡ record { encoder = e'; deeds = x.deeds ++ deeds }

abbrev pub DaysAreEndEvents : {V : Type 0} → Step V → Taken V → Type 0
DaysAreEndEvents {V} step taken =
    (x : Transmitter V) (days : List DeviceEvent) (deeds : List Deed) (e' : EncoderState V)
    → DeviceLives step taken days x.encoder deeds e' → TransmitterDoes step taken x deeds e'
