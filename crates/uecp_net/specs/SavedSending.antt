-- What a sender does whose server is kept; a reader has to believe it. Source: profile.
use Rattle.std.specs.Prelude.{◌≡◌, ◌⊎◌, ℕ, ◌≤◌, List, [], length, Option, Result, Ok, Err}
use Rattle.uecp_link.specs.Server.{ServerState, waiting}
use Rattle.uecp_net.specs.declared.sender.Outstanding.{Outstanding as Reason}
use Rattle.uecp_net.specs.declared.sender.Outstanding.TheVariants.{ConnectionFailed}
use Rattle.uecp_net.specs.declared.sender.Settled.{Settled}
use Rattle.uecp_net.specs.Sending.{SenderOver, Marks, Delivers, AreTold, AreFreed, StillWait}
use Rattle.uecp_net.specs.declared.saved.keep.Progress.{Progress}
use Rattle.uecp_net.specs.declared.saved.batch.KeptOutstanding.{KeptOutstanding}
use Rattle.uecp_net.specs.declared.saved.batch.KeptOutstanding.TheVariants.{Outstanding, StateFailed}
use Rattle.uecp_net.specs.Keeping.{KeptServer, kept_of, IsKept}

-- How a call ended.
abbrev pub Ended : Type 0
Ended = Result Settled KeptOutstanding

-- ---- What was opened, written and read: as `settle` says.

-- The messages that waited were sent, and all are acknowledged: each is told the code of its own reply.
pub record Acknowledges {C I O : Type 0} (opens : C → Option (I × O) → C → Type 0) (closes : C → I → O → C → Type 0)
    (remaining : I → Option (List ℕ)) (contents : O → Option (List ℕ)) (s s' : SenderOver C I O)
    (settled : Settled) : Type 0 where
  pub ended : ℕ
  pub marks : Marks
  pub delivers : Delivers opens closes remaining contents ended ConnectionFailed s s' [] marks (Ok settled.tries)
  pub told : AreTold s.sender.server marks settled.codes.items
  pub freed : AreFreed s.sender.server s'.sender.server
  pub all : length settled.codes.items ≡ length (waiting s.sender.server)
  pub some : 1 ≤ settled.tries
  pub most : settled.tries ≤ s.sender.tries

-- The messages that waited were sent, and some are outstanding for this reason, with the connections spent.
pub record GivesUp {C I O : Type 0} (opens : C → Option (I × O) → C → Type 0) (closes : C → I → O → C → Type 0)
    (remaining : I → Option (List ℕ)) (contents : O → Option (List ℕ)) (s s' : SenderOver C I O)
    (reason : Reason) : Type 0 where
  pub ended : ℕ
  pub marks : Marks
  pub delivers : Delivers opens closes remaining contents ended ConnectionFailed s s' [] marks (Err reason)
  pub wait : StillWait s.sender.server s'.sender.server

-- The messages that waited were sent, and it went so.
abbrev pub Settles : {C I O : Type 0} → (opens : C → Option (I × O) → C → Type 0) → (closes : C → I → O → C → Type 0)
    → (remaining : I → Option (List ℕ)) → (contents : O → Option (List ℕ)) → (s s' : SenderOver C I O)
    → Result Settled Reason → Type 0
Settles opens closes remaining contents s s' (Ok settled) = Acknowledges opens closes remaining contents s s' settled
Settles opens closes remaining contents s s' (Err reason) = GivesUp opens closes remaining contents s s' reason

-- The messages that waited were sent, and the server was saved as it is then. It is told how that went; or that is not
-- told, where the save failed.
abbrev pub SettlesKept : {C I O K : Type 0} → (opens : C → Option (I × O) → C → Type 0)
    → (closes : C → I → O → C → Type 0) → (remaining : I → Option (List ℕ)) → (contents : O → Option (List ℕ))
    → (saves fails : K → KeptServer → K → Type 0) → Progress → (s s' : SenderOver C I O) → (k k' : K) → Ended → Type 0
SettlesKept opens closes remaining contents saves fails progress s s' k k' (Ok settled) =
    Acknowledges opens closes remaining contents s s' settled × saves k (kept_of progress s'.sender.server) k'
SettlesKept opens closes remaining contents saves fails progress s s' k k' (Err (Outstanding reason)) =
    GivesUp opens closes remaining contents s s' reason × saves k (kept_of progress s'.sender.server) k'
SettlesKept opens closes remaining contents saves fails progress s s' k k' (Err StateFailed) =
    (settled : Result Settled Reason) × Settles opens closes remaining contents s s' settled
    × fails k (kept_of progress s'.sender.server) k'

-- From a sender with a batch submitted: its server was saved, and then the messages that waited were sent, and told so,
-- as above; or that save failed, and nothing was opened, written or read.
abbrev pub SendsKept : {C I O K : Type 0} → (opens : C → Option (I × O) → C → Type 0)
    → (closes : C → I → O → C → Type 0) → (remaining : I → Option (List ℕ)) → (contents : O → Option (List ℕ))
    → (saves fails : K → KeptServer → K → Type 0) → Progress → (s s' : SenderOver C I O) → (k k' : K) → Ended → Type 0
SendsKept {C} {I} {O} {K} opens closes remaining contents saves fails progress s s' k k' ended =
    ((between : K) × saves k (kept_of progress s.sender.server) between
    × SettlesKept opens closes remaining contents saves fails progress s s' between k' ended)
    ⊎ ((ended ≡ Err StateFailed) × (s' ≡ s) × fails k (kept_of progress s.sender.server) k')

-- what is told of messages that were settled so, once that is kept (private)
abbrev pub told_as : Result Settled Reason → Ended
told_as (Ok settled) = Ok settled
told_as (Err reason) = Err (Outstanding reason)

-- ---- What is kept.

-- What a crash left of a server that sent what waited: the server as it was, or as it is now.
abbrev pub Outlives : Progress → (s s' : ServerState) → KeptServer → Type 0
Outlives progress s s' left = (left ≡ kept_of progress s) ⊎ (left ≡ kept_of progress s')

-- What a crash left of a server that took a batch and sent what waited. What was before the batch is left only where
-- the sender has the batch submitted, and no more: no connection was opened and no byte was written. Else it is the
-- server with the batch submitted, or as it is now.
abbrev pub OutlivesBatch : {C I O : Type 0} → (before after : Progress) → (old submitted new : SenderOver C I O)
    → KeptServer → Type 0
OutlivesBatch before after old submitted new left =
    ((left ≡ kept_of before old.sender.server) × (new ≡ submitted))
    ⊎ Outlives after submitted.sender.server new.sender.server left

-- Whatever a crash may leave after the call is what is to be kept of the server, unless a save failed.
abbrev pub StaysKept : (leaves : KeptServer → Type 0) → Progress → ServerState → Ended → Type 0
StaysKept leaves progress s (Ok settled) = IsKept leaves progress s
StaysKept leaves progress s (Err (Outstanding reason)) = IsKept leaves progress s
StaysKept leaves progress s (Err StateFailed) = Unit {0}
