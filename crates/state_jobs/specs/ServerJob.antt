-- What the job `server` does whose state is in a file, and how it ends (profile).
use Rattle.std.specs.Prelude.{◌≡◌, ◌⊎◌, ℕ, ◌≤◌, ◌^◌, Bool, List, Option, Ok, Err}
use Rattle.uecp_link.specs.Server.{ServerState}
use Rattle.uecp_net.specs.declared.sender.Limits.{Limits}
use Rattle.commands.specs.declared.server_options.ServerOptions.{ServerOptions}
use Rattle.uecp_jobs.specs.ServerRun.{server_setup}
use Rattle.uecp_jobs.specs.Setups.{IsOneEncoder, address_of}
use Rattle.uecp_net.specs.declared.saved.keep.Progress.{Progress}
use Rattle.uecp_net.specs.Keeping.{KeptServer, IsKept}
use Rattle.kept_jobs.specs.Stops.{Went, stop_status}
use Rattle.kept_jobs.specs.ServerRun.{IsTold}
use Rattle.kept_jobs.specs.ServerKept.{HasTakenInput, OutlivesRun}
use Rattle.state_files.specs.declared.fault.StateFault.{StateFault}
use Rattle.state_files.specs.declared.fault.StateFault.TheVariants.{Damaged}
use Rattle.state_jobs.specs.ServerRun.{RunsServer}
use Rattle.state_jobs.specs.ServerTold.{HasTold}
use Rattle.state_jobs.specs.Texts.{fault_line, Closed, IsClosed}
use Rattle.notices.specs.Told.{Told, Says}

-- the exit status of a run that went so
abbrev pub status_so : Went → ℕ
status_so (Ok done) = 0
status_so (Err stop) = stop_status stop

-- The open of the path gave this fault; or it gave a server that has taken more messages than can be counted on from,
-- and such a state is damaged.
abbrev pub RefusesServer : {K : Type 0} → (gives : List ℕ → ServerState → Progress → K → Type 0)
    → (refuses : List ℕ → StateFault → Type 0) → (path : List ℕ) → StateFault → Type 0
RefusesServer {K} gives refuses path fault = refuses path fault
    ⊎ ((s : ServerState) × (progress : Progress) × (k : K) × gives path s progress k × (2 ^ 63 ≤ progress.taken)
    × (fault ≡ Damaged))

-- The state could not be opened: nothing was read, connected or written, and that was said.
abbrev pub HasLostState : {K C : Type 0} → (gives : List ℕ → ServerState → Progress → K → Type 0)
    → (refuses : List ℕ → StateFault → Type 0) → (path : List ℕ) → (unread unread' : Option (List ℕ)) → (c c' : C)
    → (held held' : Option (List ℕ)) → (told told' : Told) → Type 0
HasLostState gives refuses path unread unread' c c' held held' told told' =
    (fault : StateFault) × Says told told' (fault_line path fault)
    × RefusesServer gives refuses path fault × (unread' ≡ unread) × (c' ≡ c) × (held' ≡ held)

module _ {K C I O : Type 0} (gives : (path : List ℕ) → ServerState → Progress → K → Type 0)
    (ends : K → Closed → Type 0) (leaves : K → KeptServer → Type 0) (is_clean : K → Type 0)
    (saves fails : K → KeptServer → K → Type 0)
    (opens : C → Option (I × O) → C → Type 0) (closes : C → I → O → C → Type 0) (remaining : I → Option (List ℕ))
    (contents : O → Option (List ℕ)) where
  -- The state at the path was opened, its server is one to the encoder that is asked for, and a crash would leave of it
  -- what is to be kept; it sent the messages of the input from there, so it went, and so the close of the state went.
  -- Whatever a crash leaves then has
  -- taken the messages of the input, or those before the line that is refused, and none of them waits, and of each one
  -- line was written, in order; and however it went, what a crash leaves is as `run_server_kept` says.
  pub record Sends (path : List ℕ) (address : ℕ) (limits : Limits) (window : ℕ) (join : Bool)
      (unread unread' : Option (List ℕ)) (c c' : C) (held held' : Option (List ℕ)) (went : Went)
      (closed : Closed) : Type 0 where
    pub server : ServerState
    pub progress : Progress
    pub keeper : K
    pub keeper_after : K
    pub given : gives path server progress keeper
    pub address_is : server.address ≡ address
    pub settled : is_clean keeper → IsKept (leaves keeper) progress server
    pub runs : RunsServer opens closes remaining contents leaves is_clean saves fails window join limits unread unread'
        c c' (record { runs = server; keeper = keeper; progress = progress; held = held }) keeper_after held' went
    pub kept : (status_so went ≡ 0) ⊎ (status_so went ≡ 1) → is_clean keeper_after → (left : KeptServer)
        → leaves keeper_after left → HasTakenInput unread unread' progress left
    pub told : (status_so went ≡ 0) ⊎ (status_so went ≡ 1) → HasTold join unread unread' progress server held held'
    pub outlives : is_clean keeper_after → (left : KeptServer) → leaves keeper_after left
        → OutlivesRun opens closes remaining contents saves fails join unread unread' progress server left
    pub clean : is_clean keeper_after → is_clean keeper
    pub is_closed : ends keeper_after closed

  -- so, for these options
  abbrev pub SendsJob : (path : List ℕ) → ServerOptions → (unread unread' : Option (List ℕ)) → (c c' : C)
      → (held held' : Option (List ℕ)) → Went → Closed → Type 0
  SendsJob path o unread unread' c c' held held' went closed =
      let s = server_setup o in
      IsOneEncoder s.site s.encoder
      × Sends path (address_of s.site s.encoder) s.limits s.window s.join unread unread' c c' held held' went closed

  -- Its messages were sent, and the run went so, and that was told; then the state was closed.
  abbrev pub HasSent : (path : List ℕ) → ServerOptions → (status : ℕ) → (unread unread' : Option (List ℕ)) → (c c' : C)
      → (held held' : Option (List ℕ)) → (told told' : Told) → Type 0
  HasSent path o status unread unread' c c' held held' told told' =
      (went : Went) × (closed : Closed) × (before : ℕ) × (between : Told)
      × SendsJob path o unread unread' c c' held held' went closed × IsTold Says went before told between
      × IsClosed path before closed status between told'
