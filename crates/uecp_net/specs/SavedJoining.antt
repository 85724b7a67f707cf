-- How a server that is kept joins its encoder; a reader has to believe it. Source: profile.
use Rattle.std.specs.Prelude.{◌≡◌, ◌⊎◌, ℕ, true, List, Option, Result, Ok, Err}
use Rattle.uecp_link.specs.Server.{ServerState}
use Rattle.uecp_net.specs.declared.sender.Outstanding.{Outstanding as Reason}
use Rattle.uecp_net.specs.declared.sender.Outstanding.TheVariants.{ConnectionFailed}
use Rattle.uecp_net.specs.Sending.{SenderOver, HangsUp}
use Rattle.uecp_net.specs.Joining.{JoinsOver}
use Rattle.uecp_net.specs.declared.saved.keep.Progress.{Progress}
use Rattle.uecp_net.specs.declared.saved.batch.KeptOutstanding.{KeptOutstanding}
use Rattle.uecp_net.specs.declared.saved.batch.KeptOutstanding.TheVariants.{Outstanding, StateFailed}
use Rattle.uecp_net.specs.Keeping.{KeptServer, kept_of, IsKept}

-- How a call ended.
abbrev pub Joined : Type 0
Joined = Result (Unit {0}) KeptOutstanding

-- The connection that there was is let go, and passes were made over others, as `join` says.
abbrev pub Joins : {C I O : Type 0} → (opens : C → Option (I × O) → C → Type 0) → (closes : C → I → O → C → Type 0)
    → (remaining : I → Option (List ℕ)) → (contents : O → Option (List ℕ)) → (s s' : SenderOver C I O)
    → Result (Unit {0}) Reason → Type 0
Joins {C} {I} {O} opens closes remaining contents s s' result =
    (first : SenderOver C I O) × (ended : ℕ) × HangsUp closes s first
    × JoinsOver opens closes remaining contents ended ConnectionFailed 0 first s' result

-- A pass was complete, and then the server was saved, as joined; or none was, and nothing was saved; or one was, and
-- then that save failed.
abbrev pub JoinsKept : {C I O K : Type 0} → (opens : C → Option (I × O) → C → Type 0)
    → (closes : C → I → O → C → Type 0) → (remaining : I → Option (List ℕ)) → (contents : O → Option (List ℕ))
    → (saves fails : K → KeptServer → K → Type 0) → Progress → (s s' : SenderOver C I O) → (k k' : K) → Joined → Type 0
JoinsKept opens closes remaining contents saves fails progress s s' k k' (Ok done) =
    Joins opens closes remaining contents s s' (Ok tt) × saves k (kept_of progress s'.sender.server) k'
JoinsKept opens closes remaining contents saves fails progress s s' k k' (Err (Outstanding reason)) =
    Joins opens closes remaining contents s s' (Err reason) × (k' ≡ k)
JoinsKept opens closes remaining contents saves fails progress s s' k k' (Err StateFailed) =
    Joins opens closes remaining contents s s' (Ok tt) × fails k (kept_of progress s'.sender.server) k'

-- Whether a pass was complete where a call ended so.
abbrev pub HasJoined : Joined → Type 0
HasJoined (Ok done) = Unit {0}
HasJoined (Err (Outstanding reason)) = ⊥
HasJoined (Err StateFailed) = Unit {0}

-- how far the server has come after a call that ended so: it is joined where a pass was complete
abbrev pub joined_as : Joined → Progress → Progress
joined_as (Ok done) progress = record progress { joined = true }
joined_as (Err (Outstanding reason)) progress = progress
joined_as (Err StateFailed) progress = record progress { joined = true }

-- What a crash left of a server that joins: the server as it was; or as it is now, where a pass was complete.
abbrev pub OutlivesPass : (before after : Progress) → (s s' : ServerState) → Joined → KeptServer → Type 0
OutlivesPass before after s s' joined left =
    (left ≡ kept_of before s) ⊎ ((left ≡ kept_of after s') × HasJoined joined)

-- Whatever a crash may leave after the call is what is to be kept of the server, where it is told that it is joined.
abbrev pub StaysKeptJoining : (leaves : KeptServer → Type 0) → Progress → ServerState → Joined → Type 0
StaysKeptJoining leaves progress s (Ok done) = IsKept leaves progress s
StaysKeptJoining leaves progress s (Err fault) = Unit {0}
