-- What a server does with messages that are all there, step by step: what its run comes to.
use Rattle.std.specs.Prelude.{◌≡◌, ◌≢◌, ◌⊎◌, ℕ, zero, suc, Bool, true, false, List, [], codes, length}
use Rattle.std.specs.Prelude.{take, drop, Option, Some, None, Ok, Err}
use Rattle.uecp_text.specs.declared.run_fault.RunFault.{RunFault}
use Rattle.uecp_text.specs.declared.run_fault.RunFault.TheVariants as run
use Rattle.uecp_text.specs.Input.{texts_of}
use Rattle.uecp_text.specs.Run.{IsInput, IsUnread}
use Rattle.uecp_link.specs.declared.counts.ServerCounts.{ServerCounts}
use Rattle.uecp_link.specs.Server.{ServerState}
use Rattle.uecp_net.specs.declared.sender.Limits.{Limits}
use Rattle.uecp_net.specs.Sending.{SenderOver}
use Rattle.uecp_jobs.specs.Messages.{messages_first, refusal_in}
use Rattle.uecp_jobs.specs.Batches.{batch_lines, batch_size, fault_of}
use Rattle.uecp_jobs.specs.JoiningFirst.{joined_line, not_joined_line}
use Rattle.uecp_jobs.specs.ServerRun.{Finishes}
use Rattle.uecp_net.specs.declared.saved.batch.KeptOutstanding.TheVariants as kept
use Rattle.uecp_net.specs.Keeping.{KeptServer, IsKept}
use Rattle.uecp_net.specs.SavedSending.{Ended}
use Rattle.uecp_net.specs.SavedJoining.{Joined, JoinsKept, OutlivesPass, StaysKeptJoining, joined_as}
use Rattle.kept_jobs.specs.declared.stop.KeptStop.{KeptStop}
use Rattle.kept_jobs.specs.declared.stop.KeptStop.TheVariants.{Run, StateFailed}
use Rattle.kept_jobs.specs.Stops.{Went, TellsKept, Then, stop_for}
use Rattle.kept_jobs.specs.ServerRun.{Standing, SettlesOne, SendsOne, sending, is_due}
use Rattle.output_forms.specs.declared.form.Form.TheVariants.{Lines}
use Rattle.sending.specs.Beginning as begins

-- What is told of messages that were settled so, and how the run goes on: the line of each, where they are
-- acknowledged; and that they are outstanding, where they are. Where a save failed nothing is told, and the run
-- stops for that.
abbrev pub SettledTold : ServerCounts → Ended → (held held' : Option (List ℕ)) → Went → Type 0
SettledTold counts (Ok settled) held held' went =
    TellsKept (batch_lines settled.codes.items settled.tries) (Ok tt) held held' went
SettledTold counts (Err (kept.Outstanding reason)) held held' went =
    TellsKept (codes "outstanding\n") (Err (stop_for counts reason)) held held' went
SettledTold counts (Err kept.StateFailed) held held' went = (held' ≡ held) × (went ≡ Err StateFailed)

-- What is told of an encoder that was joined so, or could not be, and how the run goes on. Where a save failed nothing
-- is told, and the run stops for that.
abbrev pub JoiningTold : Joined → (held held' : Option (List ℕ)) → Went → Type 0
JoiningTold (Ok done) held held' went = TellsKept (joined_line true) (Ok tt) held held' went
JoiningTold (Err (kept.Outstanding reason)) held held' went =
    TellsKept not_joined_line (Err (Run (fault_of reason))) held held' went
JoiningTold (Err kept.StateFailed) held held' went = (held' ≡ held) × (went ≡ Err StateFailed)

-- how a run ends whose messages were sent so: with the first line that is refused, if there is one and all before it
-- are acknowledged
abbrev pub after_refusal : Option RunFault → Went → Went
after_refusal refused (Err stop) = Err stop
after_refusal None (Ok done) = Ok tt
after_refusal (Some fault) (Ok done) = Err (Run fault)

-- The writer got the line of how far the server has come.
abbrev pub TellsTaken : {K : Type 0} → (x x' : Standing ServerState K) → Went → Type 0
TellsTaken x x' went = begins.TellsTaken Lines x x' went

module _ {K : Type 0} (leaves : K → KeptServer → Type 0) (is_clean : K → Type 0)
    (saves fails : K → KeptServer → K → Type 0) where
  -- a new server is saved
  abbrev pub BeginsAnew : (x x' : Standing ServerState K) → Went → Type 0
  BeginsAnew x x' went = begins.BeginsAnew leaves is_clean saves fails Lines x x' went

  -- where the encoder is to be joined
  abbrev pub BeginsAnewIf : (due : Bool) → (x x' : Standing ServerState K) → Went → Type 0
  BeginsAnewIf due x x' went = begins.BeginsAnewIf leaves is_clean saves fails Lines due x x' went

module _ {C I O K : Type 0} (opens : C → Option (I × O) → C → Type 0) (closes : C → I → O → C → Type 0)
    (remaining : I → Option (List ℕ)) (contents : O → Option (List ℕ)) (leaves : K → KeptServer → Type 0)
    (is_clean : K → Type 0) (saves fails : K → KeptServer → K → Type 0) where
  -- The encoder was joined so, as `join_kept` says.
  pub record JoinsOne (joined : Joined) (x x' : Standing (SenderOver C I O) K) : Type 0 where
    pub joins : JoinsKept opens closes remaining contents saves fails x'.progress x.runs x'.runs x.keeper x'.keeper
        joined
    pub progress : x'.progress ≡ joined_as joined x.progress
    pub outlives : IsKept (leaves x.keeper) x.progress x.runs.sender.server → is_clean x'.keeper
        → (left : KeptServer) → leaves x'.keeper left
        → OutlivesPass x.progress x'.progress x.runs.sender.server x'.runs.sender.server joined left
    pub settled : is_clean x'.keeper
        → StaysKeptJoining (leaves x'.keeper) x'.progress x'.runs.sender.server joined
    pub clean : is_clean x'.keeper → is_clean x.keeper

  -- The encoder was joined, or could not be, and then the writer got the line of that.
  abbrev pub JoinsTold : (x x' : Standing (SenderOver C I O) K) → Went → Type 0
  JoinsTold x x' went = (joined : Joined) × JoinsOne joined x x'
      × JoiningTold joined x.held x'.held went

  -- It was joined where it was to be, and else nothing was done.
  abbrev pub JoinsIf : (due : Bool) → (x x' : Standing (SenderOver C I O) K) → Went → Type 0
  JoinsIf false x x' went = (x' ≡ x) × (went ≡ Ok tt)
  JoinsIf true x x' went = JoinsTold x x' went

  -- What waited was settled, and then the writer got the lines of that.
  abbrev pub SettlesTold : (x x' : Standing (SenderOver C I O) K) → Went → Type 0
  SettlesTold x x' went = (ended : Ended) × SettlesOne opens closes remaining contents leaves is_clean saves fails ended
      x x'
      × SettledTold x'.runs.sender.server.counts ended x.held x'.held went

  -- Where messages wait they were settled first.
  abbrev pub SettlesFirst : (x x' : Standing (SenderOver C I O) K) → Went → Type 0
  SettlesFirst x x' went =
      ((x.runs.sender.server.held ≡ []) × (x' ≡ x) × (went ≡ Ok tt))
      ⊎ ((x.runs.sender.server.held ≢ []) × SettlesTold x x' went)

  -- A batch was sent, and then the writer got the lines of that.
  abbrev pub SendsTold : (batch : List (List ℕ)) → (x x' : Standing (SenderOver C I O) K) → Went → Type 0
  SendsTold batch x x' went = (ended : Ended) × SendsOne opens closes remaining contents leaves is_clean saves fails
      batch ended x x'
      × SettledTold x'.runs.sender.server.counts ended x.held x'.held went

  -- The messages in so many batches of this size, of which the last may be smaller, one after another, up to one at
  -- which the run stopped: each from where the one before ended, with the sender, the keeper and the writer as that
  -- left them, so each message is sent once, and nothing else is opened, sent, saved or written.
  abbrev pub SendsOut : (size batches : ℕ) → (messages : List (List ℕ)) → (x x' : Standing (SenderOver C I O) K) → Went
      → Type 0
  SendsOut size zero messages x x' went = (messages ≡ []) × (x' ≡ x) × (went ≡ Ok tt)
  SendsOut size (suc n) messages x x' went =
      (messages ≢ []) × Then (SendsTold (take size messages)) (SendsOut size n (drop size messages)) x x' went

  -- so in as many batches as it takes
  abbrev pub SendsAll : (size : ℕ) → (messages : List (List ℕ)) → (x x' : Standing (SenderOver C I O) K) → Went → Type 0
  SendsAll size messages x x' went = (batches : ℕ) × SendsOut size batches messages x x' went

  -- The encoder was joined where it was to be, what waited was settled, and then these messages were sent.
  abbrev pub RunsSender : (due : Bool) (size : ℕ) → (messages : List (List ℕ)) → (x x' : Standing (SenderOver C I O) K)
      → Went → Type 0
  RunsSender due size messages = Then (JoinsIf due) (Then SettlesFirst (SendsAll size messages))

  -- The writer got the line of how far the server has come; it began anew where its encoder is to be joined; and then
  -- one sender sent these messages, over connections that came from there, and this is left of that. Or the run stopped
  -- before a connection was opened.
  abbrev pub SendsMessages : (join : Bool) (size : ℕ) → Limits → (messages : List (List ℕ)) → (c c' : C)
      → (x : Standing ServerState K) → (k' : K) → (held' : Option (List ℕ)) → Went → Type 0
  SendsMessages join size limits messages c c' x k' held' went =
      ((y : Standing ServerState K) × (loan : ℕ) × (z : Standing (SenderOver C I O) K)
      × Then TellsTaken (BeginsAnewIf leaves is_clean saves fails (is_due join x.progress)) x y (Ok tt)
      × RunsSender (is_due join x.progress) size messages
      (sending opens closes remaining contents leaves is_clean saves fails c loan limits y) z went
      × Finishes closes c' z.runs × (k' ≡ z.keeper) × (held' ≡ z.held))
      ⊎ ((y : Standing ServerState K) × (stop : KeptStop)
      × Then TellsTaken (BeginsAnewIf leaves is_clean saves fails (is_due join x.progress)) x y (Err stop)
      × (went ≡ Err stop) × (c' ≡ c) × (k' ≡ y.keeper) × (held' ≡ y.held))

  -- The input was read to its end, and the messages of its lines, or of those before the first that is refused, were
  -- sent, as far as that went. Or the input was not read to its end, or there was no memory for its messages, and then
  -- nothing was opened, saved or written.
  abbrev pub RunsServer : (window : ℕ) (join : Bool) → Limits → (unread unread' : Option (List ℕ)) → (c c' : C)
      → (x : Standing ServerState K) → (k' : K) → (held' : Option (List ℕ)) → Went → Type 0
  RunsServer window join limits unread unread' c c' x k' held' went =
      ((input : List ℕ) × (sent : Went) × IsInput unread unread' input
      × SendsMessages join (batch_size window) limits (messages_first (texts_of input)) c c' x k' held' sent
      × (went ≡ after_refusal (refusal_in (texts_of input)) sent))
      ⊎ ((fault : RunFault)
      × (IsUnread unread unread' fault ⊎ ((input : List ℕ) × IsInput unread unread' input × (fault ≡ run.OutOfMemory)))
      × (went ≡ Err (Run fault)) × (c' ≡ c) × (k' ≡ x.keeper) × (held' ≡ x.held))
