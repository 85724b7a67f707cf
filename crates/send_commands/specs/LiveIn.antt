-- A run with its lines as they come whose state is in a file (profile).
use Rattle.std.specs.Prelude.{◌≡◌, ℕ, Bool, List, Option, Result}
use Rattle.uecp_link.specs.Server.{ServerState}
use Rattle.notices.specs.Told.{Told, Says}
use Rattle.uecp_net.specs.declared.saved.keep.Progress.{Progress}
use Rattle.uecp_net.specs.Keeping.{KeptServer, IsKept}
use Rattle.state_files.specs.declared.fault.StateFault.{StateFault}
use Rattle.state_jobs.specs.Texts.{fault_line, IsClosed}
use Rattle.state_jobs.specs.ServerJob.{RefusesServer}
use Rattle.sending.specs.declared.options.LiveOptions.{LiveOptions}
use Rattle.line_feed.specs.declared.feed.Next.{Next}
use Rattle.line_feed.specs.declared.feed_fault.FeedFault.{FeedFault}
use Rattle.line_feed.specs.declared.feed_fault.NotKept.{NotKept}
use Rattle.line_feed.specs.Lines.{Refusal}
use Rattle.sending.specs.Run.{Lives}

-- The state at the path could not be opened, and that was said.
abbrev pub HasNoState : {K : Type 0} → (gives : List ℕ → ServerState → Progress → K → Type 0)
    → (refuses : List ℕ → StateFault → Type 0) → (path : List ℕ) → (said said' : Told) → (status : ℕ)
    → Type 0
HasNoState gives refuses path said said' status =
    (fault : StateFault) × RefusesServer gives refuses path fault × (status ≡ 3)
    × Says said said' (fault_line path fault)

module _ {D K C I O : Type 0} (unread : D → Option (List ℕ))
    (takes : D → Result Next FeedFault → List ℕ → D → Type 0) (says : D → Bool → D → Type 0)
    (passes : D → Refusal → Result (Unit {0}) NotKept → D → Type 0)
    (gives : (path : List ℕ) → ServerState → Progress → K → Type 0)
    (ends : K → Result (Unit {0}) StateFault → Type 0) (leaves : K → KeptServer → Type 0) (is_clean : K → Type 0)
    (saves fails : K → KeptServer → K → Type 0) (opens : C → Option (I × O) → C → Type 0)
    (closes : C → I → O → C → Type 0) (remaining : I → Option (List ℕ)) (contents : O → Option (List ℕ)) where
  -- The state at the path was opened, its server is one to the encoder that is asked for, and a crash would leave of
  -- it what is to be kept; the run was made from there, as `run_live` says, and ended with a status; and then the state
  -- was closed.
  pub record LivesIn (path : List ℕ) (address : ℕ) (options : LiveOptions) (c c' : C)
      (feed feed' : D) (held held' : Option (List ℕ)) (said said' : Told) (status' : ℕ) : Type 0 where
    pub server : ServerState
    pub progress : Progress
    pub keeper : K
    pub keeper_after : K
    pub status : ℕ
    pub between : Told
    pub closed : Result (Unit {0}) StateFault
    pub given : gives path server progress keeper
    pub address_is : server.address ≡ address
    pub settled : is_clean keeper → IsKept (leaves keeper) progress server
    pub lives : Lives unread takes says passes opens closes remaining contents leaves is_clean saves fails options c c'
        (record { runs = server; keeper = keeper; progress = progress; held = held }) keeper_after held' feed feed'
        said between status
    pub closes_so : ends keeper_after closed
    pub is_closed : IsClosed path status closed status' between said'
