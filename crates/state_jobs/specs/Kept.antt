-- What comes of a job with its state in a file, whatever its connections are (profile).
use Rattle.std.specs.Prelude.{◌≡◌, ◌⊎◌, ℕ, List, Option}
use Rattle.uecp_link.specs.Server.{ServerState}
use Rattle.commands.specs.declared.server_options.ServerOptions.{ServerOptions}
use Rattle.uecp_jobs.specs.Setups.{address_of}
use Rattle.uecp_net.specs.declared.saved.keep.Progress.{Progress}
use Rattle.uecp_net.specs.Keeping as sending
use Rattle.kept_jobs.specs.declared.stop.KeptStop.{KeptStop}
use Rattle.kept_jobs.specs.Stops.{stop_lines}
use Rattle.kept_jobs.specs.ServerKept.{HasTakenInput}
use Rattle.state_files.specs.declared.fault.StateFault.{StateFault}
use Rattle.state_jobs.specs.Texts.{fault_line}
use Rattle.notices.specs.Told.{Told, Says}

-- Nothing more was said; or what became of the file at this path was.
abbrev pub SaysMore : (path : List ℕ) → (told told' : Told) → Type 0
SaysMore path told told' = (told' ≡ told) ⊎ ((fault : StateFault) × Says told told' (fault_line path fault))

-- It was said that the state at the path can't be had, and why; or why the run stopped, and then, where the state at
-- the path could not be closed, that too.
abbrev pub SaysWhy : (path : List ℕ) → (told told' : Told) → Type 0
SaysWhy path told told' = ((fault : StateFault) × Says told told' (fault_line path fault))
    ⊎ ((stop : KeptStop) × (between : Told) × Says told between (stop_lines stop)
    × SaysMore path between told')

-- The messages of the input were sent from where the server in the state at the path had come: whatever a crash leaves
-- then has taken them, or those before the line that is refused, none of them waits, nor any that waited before.
pub record SentKept {K : Type 0} (gives : (path : List ℕ) → ServerState → Progress → K → Type 0)
    (leaves : K → sending.KeptServer → Type 0) (is_clean : K → Type 0) (path : List ℕ) (address : ℕ)
    (unread unread' : Option (List ℕ)) : Type 0 where
  pub server : ServerState
  pub progress : Progress
  pub keeper : K
  pub keeper_after : K
  pub given : gives path server progress keeper
  pub address_is : server.address ≡ address
  pub settled : is_clean keeper → sending.IsKept (leaves keeper) progress server
  pub kept : is_clean keeper_after → (left : sending.KeptServer) → leaves keeper_after left
      → HasTakenInput unread unread' progress left
  pub clean : is_clean keeper_after → is_clean keeper

-- The messages of the input were sent so, with these options of the server.
abbrev pub HasSentKept : {K : Type 0} → (gives : (path : List ℕ) → ServerState → Progress → K → Type 0)
    → (leaves : K → sending.KeptServer → Type 0) → (is_clean : K → Type 0) → (path : List ℕ)
    → ServerOptions → (unread unread' : Option (List ℕ)) → Type 0
HasSentKept gives leaves is_clean path o unread unread' =
    SentKept gives leaves is_clean path (address_of o.site o.encoder) unread unread'
