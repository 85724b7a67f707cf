-- How a server joins its encoder and makes the station there, with its state kept, and what is told of that (profile).
use Rattle.std.specs.Prelude.{◌≡◌, ◌≢◌, ◌⊎◌, ℕ, zero, suc, Bool, true, false, ◌&&◌, List, [], ◌++◌, take, drop}
use Rattle.std.specs.Prelude.{Option, Result, Ok, Err}
use Rattle.std.specs.List.{list_all}
use Rattle.uecp_elements.specs.declared.code.Code.{Code}
use Rattle.uecp_net.specs.declared.sender.Outstanding.{Outstanding as Reason}
use Rattle.uecp_net.specs.declared.sender.Settled.{Settled}
use Rattle.uecp_net.specs.Sending.{SenderOver}
use Rattle.uecp_jobs.specs.Batches.{Acknowledges, GivesUp, fault_of}
use Rattle.uecp_net.specs.declared.saved.keep.Progress.{Progress}
use Rattle.uecp_net.specs.declared.saved.batch.KeptOutstanding.TheVariants as kept
use Rattle.uecp_net.specs.Keeping.{KeptServer, kept_of, IsKept}
use Rattle.uecp_net.specs.SavedJoining.{Joined, Joins, OutlivesPass, StaysKeptJoining, joined_as}
use Rattle.kept_jobs.specs.declared.stop.KeptStop.TheVariants.{Run, StateFailed}
use Rattle.kept_jobs.specs.Stops.{Went, TellsKept}
use Rattle.kept_jobs.specs.ServerRun.{Standing}
use Rattle.output_forms.specs.declared.form.Form.{Form}
use Rattle.sending.specs.Lines.{is_applied}
use Rattle.sending.specs.Forms.{not_joined_in, station_in}

-- ---- What is told.

-- These lines are told where an encoder was joined and the station made, and that is kept; that it is not joined, where
-- it could not be or a message of the station is outstanding; and nothing where the save failed. Then the run goes on
-- or stops so.
abbrev pub JoinedTold : Form → (lines : List ℕ) → Joined → (held held' : Option (List ℕ)) → Went → Type 0
JoinedTold form lines (Ok done) held held' went = TellsKept lines (Ok tt) held held' went
JoinedTold form lines (Err (kept.Outstanding reason)) held held' went =
    TellsKept (not_joined_in form) (Err (Run (fault_of reason))) held held' went
JoinedTold form lines (Err kept.StateFailed) held held' went = (held' ≡ held) × (went ≡ Err StateFailed)

-- ---- What is sent.

module _ {C I O : Type 0} (opens : C → Option (I × O) → C → Type 0) (closes : C → I → O → C → Type 0)
    (remaining : I → Option (List ℕ)) (contents : O → Option (List ℕ)) where
  -- So many batches were sent of these messages, one after another, each from where the one before ended: each time the
  -- next messages that were left, up to this size. All are acknowledged, each with the code of its own reply, in this
  -- order; and these messages are left.
  abbrev pub SentFor : (size : ℕ) → (messages : List (List ℕ)) → (batches : ℕ) → (told : List Code)
      → (left : List (List ℕ)) → (s s' : SenderOver C I O) → Type 0
  SentFor size messages zero told left s s' = (told ≡ []) × (left ≡ messages) × (s' ≡ s)
  SentFor size messages (suc n) told left s s' =
      (before : List Code) × (rest : List (List ℕ)) × (y : SenderOver C I O) × (more : List Code) × (tries : ℕ)
      × SentFor size messages n before rest s y × (rest ≢ [])
      × Acknowledges opens closes remaining contents y (take size rest) more tries s'
      × (told ≡ before ++ more) × (left ≡ drop size rest)

  -- A batch was submitted to a sender and settled so. (private)
  abbrev pub SettlesBatch : (batch : List (List ℕ)) → (s s' : SenderOver C I O) → Result Settled Reason → Type 0
  SettlesBatch batch s s' (Ok settled) =
      Acknowledges opens closes remaining contents s batch settled.codes.items settled.tries s'
  SettlesBatch batch s s' (Err reason) = GivesUp opens closes remaining contents s batch reason s'

  -- All messages of the station were sent so, in as many batches as it takes, and none is left. Or a batch is
  -- outstanding, for this reason, and no other was sent after it.
  abbrev pub SendsStation : (size : ℕ) → (station : List (List ℕ)) → (told : List Code) → (s s' : SenderOver C I O)
      → Result (Unit {0}) Reason → Type 0
  SendsStation size station told s s' (Ok done) = (batches : ℕ) × SentFor size station batches told [] s s'
  SendsStation size station told s s' (Err reason) =
      (batches : ℕ) × (left : List (List ℕ)) × (y : SenderOver C I O) × SentFor size station batches told left s y
      × (left ≢ []) × GivesUp opens closes remaining contents y (take size left) reason s'

  -- A pass was complete, as `join` says, and then the station was sent so. Or no pass was, and no message was sent.
  abbrev pub MakesStation : (size : ℕ) → (station : List (List ℕ)) → (told : List Code) → (s s' : SenderOver C I O)
      → Result (Unit {0}) Reason → Type 0
  MakesStation size station told s s' result =
      ((y : SenderOver C I O) × Joins opens closes remaining contents s y (Ok tt)
      × SendsStation size station told y s' result)
      ⊎ ((reason : Reason) × Joins opens closes remaining contents s s' (Err reason) × (told ≡ [])
      × (result ≡ Err reason))

-- ---- And what is kept.

module _ {C I O K : Type 0} (opens : C → Option (I × O) → C → Type 0) (closes : C → I → O → C → Type 0)
    (remaining : I → Option (List ℕ)) (contents : O → Option (List ℕ)) (leaves : K → KeptServer → Type 0)
    (is_clean : K → Type 0) (saves fails : K → KeptServer → K → Type 0) (form : Form) (size : ℕ)
    (station : List (List ℕ)) where
  -- The encoder was joined and the station made, and only then the server was saved, as joined; or it was not, and
  -- nothing was saved; or it was, and then that save failed.
  abbrev pub MakesKept : Progress → (told : List Code) → (s s' : SenderOver C I O) → (k k' : K) → Joined → Type 0
  MakesKept progress told s s' k k' (Ok done) =
      MakesStation opens closes remaining contents size station told s s' (Ok tt)
      × saves k (kept_of progress s'.sender.server) k'
  MakesKept progress told s s' k k' (Err (kept.Outstanding reason)) =
      MakesStation opens closes remaining contents size station told s s' (Err reason) × (k' ≡ k)
  MakesKept progress told s s' k k' (Err kept.StateFailed) =
      MakesStation opens closes remaining contents size station told s s' (Ok tt)
      × fails k (kept_of progress s'.sender.server) k'

  -- So it was done, and what a crash leaves of it: the server as it was, which is not joined, so that a start joins and
  -- makes the station anew; or as it is now, where the encoder was joined and the whole station made.
  pub record MakesOne (told : List Code) (joined : Joined) (x x' : Standing (SenderOver C I O) K) : Type 0 where
    pub makes : MakesKept x'.progress told x.runs x'.runs x.keeper x'.keeper joined
    pub progress : x'.progress ≡ joined_as joined x.progress
    pub outlives : IsKept (leaves x.keeper) x.progress x.runs.sender.server → is_clean x'.keeper
        → (left : KeptServer) → leaves x'.keeper left
        → OutlivesPass x.progress x'.progress x.runs.sender.server x'.runs.sender.server joined left
    pub settled : is_clean x'.keeper
        → StaysKeptJoining (leaves x'.keeper) x'.progress x'.runs.sender.server joined
    pub clean : is_clean x'.keeper → is_clean x.keeper

  -- So it was done, and then told; and whether all messages that were answered were applied takes the station's in.
  abbrev pub MakesTold : (x x' : Standing (SenderOver C I O) K) → (applied applied' : Bool) → Went → Type 0
  MakesTold x x' applied applied' went =
      (told : List Code) × (joined : Joined) × MakesOne told joined x x'
      × JoinedTold form (station_in form station told) joined x.held x'.held went
      × (applied' ≡ applied && list_all is_applied told)

  -- It was done where the encoder is to be joined, and else nothing.
  abbrev pub MakesIf : (due : Bool) → (x x' : Standing (SenderOver C I O) K) → (applied applied' : Bool) → Went
      → Type 0
  MakesIf false x x' applied applied' went = (x' ≡ x) × (applied' ≡ applied) × (went ≡ Ok tt)
  MakesIf true x x' applied applied' went = MakesTold x x' applied applied' went
