-- What a crash leaves of a server goes on as it was, loses no message, and sends none again whose acknowledgement was
-- told. Source: profile.
use Rattle.std.specs.Prelude.{◌≡◌, ◌⊎◌, ℕ, zero, suc, false, List, [], ◌∷◌, ◌++◌, length, drop, Option, IsSome}
use Rattle.std.specs.Prelude.{Result, Ok}
use mathlib.Core.Logic.{inl, inr}
use Rattle.std.specs.List.{Contains}
use Rattle.uecp_frame.specs.Findings.{Closed}
use Rattle.uecp_frame.specs.Beyond.{found_beyond}
use Rattle.uecp_link.specs.declared.heard.HeardWhat.{HeardWhat}
use Rattle.uecp_link.specs.Counters.{next_counter}
use Rattle.uecp_link.specs.Kept.{last_counter}
use Rattle.uecp_link.specs.Server.{ServerState, submitted, waiting_among, waiting, heard, all_heard_as}
use Rattle.uecp_link.specs.Server.{frames_waiting, counters_waiting}
use Rattle.uecp_link.specs.Window.{code_under}
use Rattle.uecp_net.specs.declared.sender.Outstanding.{Outstanding}
use Rattle.uecp_net.specs.declared.sender.Outstanding.TheVariants.{ConnectionFailed}
use Rattle.uecp_net.specs.declared.sender.Settled.{Settled}
use Rattle.uecp_net.specs.Sending.{SenderOver, Marks, Delivers, submitted_all}
use Rattle.uecp_net.specs.declared.saved.keep.Progress.{Progress}
use Rattle.uecp_net.specs.Keeping.{KeptServer, kept_of, going_on, taking}
use Rattle.uecp_net.specs.SavedSending.{Ended, Acknowledges, SettlesKept, SendsKept, Outlives, OutlivesBatch}
use Rattle.uecp_net.specs.SavedJoining.{Joined, Joins, HasJoined, OutlivesPass}

-- ---- A server that goes on.

-- what a server says to some bytes
abbrev pub says : ServerState → List ℕ → List HeardWhat
says s bytes = all_heard_as s (found_beyond s.part bytes)

-- A server goes on in place of another, which was cut off from its line: it lends the very frames of the messages that
-- waited, under the same counters; it numbers the next message as that; to whatever is heard over the next connection
-- it says what that would, and from then on the same is to be kept of it.
pub record GoesOnAs (progress : Progress) (s again : ServerState) : Type 0 where
  pub frames : frames_waiting again ≡ frames_waiting s
  pub counters : counters_waiting again ≡ counters_waiting s
  pub next : (message : List ℕ) → kept_of progress (submitted again message) ≡ kept_of progress (submitted s message)
  pub hears : (bytes : List ℕ) → says again bytes ≡ says (record s { part = Closed }) bytes
  pub keeps : (bytes : List ℕ)
      → kept_of progress (heard again bytes) ≡ kept_of progress (heard (record s { part = Closed }) bytes)

-- A server that goes on from what is to be kept of another, at its address, does so.
abbrev pub GoesOnAsItWas : Type 0
GoesOnAsItWas = (progress : Progress) (s : ServerState) → GoesOnAs progress s (going_on s.address (kept_of progress s))

-- ---- A crash loses no message.

-- The messages of a batch, each with its counter: those after this one, in turn.
abbrev pub numbered_after : (last : ℕ) → List (List ℕ) → List (ℕ × List ℕ)
numbered_after last [] = []
numbered_after last (message ∷ batch) = (next_counter last, message) ∷ numbered_after (next_counter last) batch

-- What is to be delivered once a batch is taken: the messages that wait, and those of the batch.
abbrev pub to_deliver : ServerState → List (List ℕ) → List (ℕ × List ℕ)
to_deliver s batch = waiting s ++ numbered_after s.last batch

-- Over the connections from one state of a sender to another the acknowledgement of the message with this counter came.
abbrev pub HasCome : {C I O : Type 0} → (opens : C → Option (I × O) → C → Type 0) → (closes : C → I → O → C → Type 0)
    → (remaining : I → Option (List ℕ)) → (contents : O → Option (List ℕ)) → (s s' : SenderOver C I O) → (counter : ℕ)
    → Type 0
HasCome opens closes remaining contents s s' counter =
    (ended : ℕ) × (marks : Marks) × (result : Result ℕ Outstanding)
    × Delivers opens closes remaining contents ended ConnectionFailed s s' [] marks result
    × IsSome (code_under counter marks)

-- A crash left this of a sender that took a batch from its input, and of the batch nothing: no connection was opened
-- and no byte written since it was submitted, it comes next from the input, and the messages that waited before wait at
-- a server that goes on.
pub record TakesNone {C I O : Type 0} (before : Progress) (old new : SenderOver C I O) (batch : List (List ℕ))
    (left : KeptServer) : Type 0 where
  pub nothing_sent : new ≡ submitted_all old batch
  pub comes_next : (input rest : List (List ℕ)) → drop before.taken input ≡ batch ++ rest
      → drop left.taken input ≡ batch ++ rest
  pub wait : waiting (going_on old.sender.server.address left) ≡ waiting old.sender.server

-- A crash left this of a sender that took a batch from its input, and all of the batch: what follows it comes next from
-- the input, and each of its messages, and of those that waited before, waits at a server that goes on, under its
-- counter, or its acknowledgement came.
pub record TakesAll {C I O : Type 0} (opens : C → Option (I × O) → C → Type 0) (closes : C → I → O → C → Type 0)
    (remaining : I → Option (List ℕ)) (contents : O → Option (List ℕ)) (before : Progress) (old new : SenderOver C I O)
    (batch : List (List ℕ)) (left : KeptServer) : Type 0 where
  pub comes_next : (input rest : List (List ℕ)) → drop before.taken input ≡ batch ++ rest
      → drop left.taken input ≡ rest
  pub none_lost : (message : ℕ × List ℕ) → Contains (to_deliver old.sender.server batch) message
      → Contains (waiting (going_on old.sender.server.address left)) message
      ⊎ HasCome opens closes remaining contents (submitted_all old batch) new message.0

-- Whatever a call of `send_kept` did, and whatever a crash leaves of it: all of the batch, and no message is lost; or
-- nothing of the batch, where nothing was sent.
abbrev pub LosesNoMessage : {C I O K : Type 0} → (opens : C → Option (I × O) → C → Type 0)
    → (closes : C → I → O → C → Type 0) → (remaining : I → Option (List ℕ)) → (contents : O → Option (List ℕ))
    → (saves fails : K → KeptServer → K → Type 0) → Type 0
LosesNoMessage {C} {I} {O} {K} opens closes remaining contents saves fails =
    (before : Progress) (old new : SenderOver C I O) (batch : List (List ℕ)) (k k' : K) (ended : Ended)
    (left : KeptServer) →
    SendsKept opens closes remaining contents saves fails (taking before (length batch)) (submitted_all old batch) new k
    k' ended →
    OutlivesBatch before (taking before (length batch)) old (submitted_all old batch) new left →
    TakesAll opens closes remaining contents before old new batch left
    ⊎ TakesNone before old new batch left

-- Whatever a call of `settle_kept` did, and whatever a crash leaves of it: each message that waited waits at a server
-- that goes on, under its counter, or its acknowledgement came; and the same comes next from the input.
abbrev pub LosesNoneOutstanding : {C I O K : Type 0} → (opens : C → Option (I × O) → C → Type 0)
    → (closes : C → I → O → C → Type 0) → (remaining : I → Option (List ℕ)) → (contents : O → Option (List ℕ))
    → (saves fails : K → KeptServer → K → Type 0) → Type 0
LosesNoneOutstanding {C} {I} {O} {K} opens closes remaining contents saves fails =
    (progress : Progress) (old new : SenderOver C I O) (k k' : K) (ended : Ended) (left : KeptServer) →
    SettlesKept opens closes remaining contents saves fails progress old new k k' ended →
    Outlives progress old.sender.server new.sender.server left →
    (left.taken ≡ progress.taken)
    × ((message : ℕ × List ℕ) → Contains (waiting old.sender.server) message →
    Contains (waiting (going_on old.sender.server.address left)) message
    ⊎ HasCome opens closes remaining contents old new message.0)

-- ---- Over any number of crashes.

-- One call of `send_kept` by a server of which this was kept, and this is left of it, by a crash or at its end.
pub record Sends {C I O K : Type 0} (opens : C → Option (I × O) → C → Type 0) (closes : C → I → O → C → Type 0)
    (remaining : I → Option (List ℕ)) (contents : O → Option (List ℕ)) (saves fails : K → KeptServer → K → Type 0)
    (kept left : KeptServer) : Type 0 where
  pub before : Progress
  pub old : SenderOver C I O
  pub new : SenderOver C I O
  pub batch : List (List ℕ)
  pub keeper : K
  pub keeper' : K
  pub ended : Ended
  pub is_kept : kept ≡ kept_of before old.sender.server
  pub sends : SendsKept opens closes remaining contents saves fails (taking before (length batch))
      (submitted_all old batch) new keeper keeper' ended
  pub outlives : OutlivesBatch before (taking before (length batch)) old (submitted_all old batch) new left

-- One call of `settle_kept` by a server of which this was kept, and this is left of it, by a crash or at its end: no
-- message is taken, and those that waited are sent.
pub record SettlesOnce {C I O K : Type 0} (opens : C → Option (I × O) → C → Type 0) (closes : C → I → O → C → Type 0)
    (remaining : I → Option (List ℕ)) (contents : O → Option (List ℕ)) (saves fails : K → KeptServer → K → Type 0)
    (kept left : KeptServer) : Type 0 where
  pub progress : Progress
  pub old : SenderOver C I O
  pub new : SenderOver C I O
  pub keeper : K
  pub keeper' : K
  pub ended : Ended
  pub is_kept : kept ≡ kept_of progress old.sender.server
  pub settles : SettlesKept opens closes remaining contents saves fails progress old new keeper keeper' ended
  pub outlives : Outlives progress old.sender.server new.sender.server left

-- So many calls, each by a server that goes on from what was left by the one before, or by that server itself.
abbrev pub Lives : {C I O K : Type 0} → (opens : C → Option (I × O) → C → Type 0) → (closes : C → I → O → C → Type 0)
    → (remaining : I → Option (List ℕ)) → (contents : O → Option (List ℕ))
    → (saves fails : K → KeptServer → K → Type 0) → (calls : ℕ) → (kept kept' : KeptServer) → Type 0
Lives opens closes remaining contents saves fails zero kept kept' = kept' ≡ kept
Lives opens closes remaining contents saves fails (suc n) kept kept' =
    (left : KeptServer)
    × (Sends opens closes remaining contents saves fails kept left
    ⊎ SettlesOnce opens closes remaining contents saves fails kept left)
    × Lives opens closes remaining contents saves fails n left kept'

-- In a call the acknowledgement of the message with this counter came.
abbrev pub ComesIn : {C I O K : Type 0} → (opens : C → Option (I × O) → C → Type 0) → (closes : C → I → O → C → Type 0)
    → (remaining : I → Option (List ℕ)) → (contents : O → Option (List ℕ))
    → (saves fails : K → KeptServer → K → Type 0) → (kept left : KeptServer)
    → Sends opens closes remaining contents saves fails kept left
    ⊎ SettlesOnce opens closes remaining contents saves fails kept left → (counter : ℕ) → Type 0
ComesIn opens closes remaining contents saves fails kept left (inl call) counter =
    HasCome opens closes remaining contents (submitted_all call.old call.batch) call.new counter
ComesIn opens closes remaining contents saves fails kept left (inr call) counter =
    HasCome opens closes remaining contents call.old call.new counter

-- A message waits in what is kept before each of these calls and after the last, up to the call in which its
-- acknowledgement came.
abbrev pub WaitsUntilItCame : {C I O K : Type 0} → (opens : C → Option (I × O) → C → Type 0)
    → (closes : C → I → O → C → Type 0) → (remaining : I → Option (List ℕ)) → (contents : O → Option (List ℕ))
    → (saves fails : K → KeptServer → K → Type 0) → (calls : ℕ) → (kept kept' : KeptServer)
    → Lives opens closes remaining contents saves fails calls kept kept' → (message : ℕ × List ℕ) → Type 0
WaitsUntilItCame opens closes remaining contents saves fails zero kept kept' same message =
    Contains (waiting_among kept.held) message
WaitsUntilItCame opens closes remaining contents saves fails (suc n) kept kept' (left, call, later) message =
    Contains (waiting_among kept.held) message
    × (ComesIn opens closes remaining contents saves fails kept left call message.0
    ⊎ WaitsUntilItCame opens closes remaining contents saves fails n left kept' later message)

-- Over any number of calls and crashes each message that waits once waits in every file until its acknowledgement came.
-- (No pass is made in between, since none begins while a message is held.)
abbrev pub WaitsInEveryFile : {C I O K : Type 0} → (opens : C → Option (I × O) → C → Type 0)
    → (closes : C → I → O → C → Type 0) → (remaining : I → Option (List ℕ)) → (contents : O → Option (List ℕ))
    → (saves fails : K → KeptServer → K → Type 0) → Type 0
WaitsInEveryFile opens closes remaining contents saves fails =
    (calls : ℕ) (kept kept' : KeptServer) (lives : Lives opens closes remaining contents saves fails calls kept kept')
    (message : ℕ × List ℕ) → Contains (waiting_among kept.held) message
    → WaitsUntilItCame opens closes remaining contents saves fails calls kept kept' lives message

-- Over any number of calls and crashes the messages of the input are numbered by their places, from counter 01 on:
-- where the last counter was that of the number of messages that were taken, it still is.
abbrev pub NumbersByPlace : {C I O K : Type 0} → (opens : C → Option (I × O) → C → Type 0)
    → (closes : C → I → O → C → Type 0) → (remaining : I → Option (List ℕ)) → (contents : O → Option (List ℕ))
    → (saves fails : K → KeptServer → K → Type 0) → Type 0
NumbersByPlace opens closes remaining contents saves fails =
    (calls : ℕ) (kept kept' : KeptServer) → Lives opens closes remaining contents saves fails calls kept kept'
    → kept.last ≡ last_counter kept.taken → kept'.last ≡ last_counter kept'.taken

-- ---- What was told is not sent again.

-- Where the messages that waited are told to be acknowledged, a server that goes on from what is to be kept then lends
-- no frame.
abbrev pub SendsNoneAgain : {C I O : Type 0} → (opens : C → Option (I × O) → C → Type 0)
    → (closes : C → I → O → C → Type 0) → (remaining : I → Option (List ℕ)) → (contents : O → Option (List ℕ)) → Type 0
SendsNoneAgain {C} {I} {O} opens closes remaining contents =
    (progress : Progress) (s s' : SenderOver C I O) (settled : Settled) →
    Acknowledges opens closes remaining contents s s' settled →
    frames_waiting (going_on s'.sender.server.address (kept_of progress s'.sender.server)) ≡ []

-- ---- A pass that was cut begins anew.

-- A crash left this of a server that was not joined and held nothing: not joined and nothing held, so that a pass may
-- begin; or joined, and then a pass was complete, nothing is held, and no message was numbered: the next has counter
-- 01.
abbrev pub BeginsAnewOrIsJoined : {C I O : Type 0} → (opens : C → Option (I × O) → C → Type 0)
    → (closes : C → I → O → C → Type 0) → (remaining : I → Option (List ℕ)) → (contents : O → Option (List ℕ)) → Type 0
BeginsAnewOrIsJoined {C} {I} {O} opens closes remaining contents =
    (before after : Progress) (old new : SenderOver C I O) (ended : Joined) (left : KeptServer) →
    before.joined ≡ false → old.sender.server.held ≡ [] →
    (HasJoined ended → Joins opens closes remaining contents old new (Ok tt)) →
    OutlivesPass before after old.sender.server new.sender.server ended left →
    ((left.joined ≡ false) × (left.held ≡ []))
    ⊎ (HasJoined ended × (left.held ≡ []) × (left.last ≡ last_counter 0))
