-- What comes of a server, and of an encoder that is no device: where their connections come from, and what is done over
-- them (profile).
use Rattle.std.specs.Prelude.{◌≡◌, ◌⊎◌, ℕ, List, Option, None, MatchOption, Result}
use Rattle.std.specs.String.{string_bytes}
use Rattle.rds_store.specs.Value.{Store}
use Rattle.uecp_encoder.specs.State.{EncoderState}
use Rattle.uecp_encoder.specs.Keeping.{Kept}
use Rattle.uecp_link.specs.Server.{ServerState}
use Rattle.uecp_net.specs.declared.saved.keep.Progress.{Progress}
use Rattle.uecp_net.specs.Keeping.{KeptServer}
use Rattle.uecp_net.specs.declared.tcp.DialFault.{DialFault}
use Rattle.uecp_net.specs.Tcp.{Dials, DialsAgain}
use Rattle.state_files.specs.declared.fault.StateFault.{StateFault}
use Rattle.state_jobs.specs.ServerJob.{HasSent, HasLostState}
use Rattle.device_edges.specs.Screen.{Screen, Screening, OpensScreened, ClosesScreened}
use Rattle.device_serving.specs.Logging.{Log}
use Rattle.device_jobs.specs.Kept.{plain_log}
use Rattle.device_jobs.specs.Serving.{HasServedDevice}
use Rattle.uecp_jobs.specs.EncoderRun.{ServedAll, HasNotServedAll}
use Rattle.uecp_jobs.specs.ServerRun.{HasSentAll, HasSentBefore, HasNotSentAll}
use Rattle.commands.specs.Jobs.{in_full}
use Rattle.commands.specs.declared.encoder_options.EncoderOptions.{EncoderOptions}
use Rattle.commands.specs.declared.server_options.ServerOptions.{ServerOptions}
use Rattle.commands.specs.declared.job.Job.{Job}
use Rattle.commands.specs.declared.job.Job.TheVariants.{Encoder, Server, ServerWith}
use Rattle.uecp_cli.specs.Kept.{SaysWhereUnreached}
use Rattle.notices.specs.Told.{Told, Says}

-- ---- where connections come from
-- Connections are accepted on the port of the job.
abbrev pub ListensFor : Job → (port : ℕ) → Type 0
ListensFor (Encoder site encoder sets services port connections turns) listened = listened ≡ port
ListensFor job listened = ⊥

-- The host and the port of the job are dialled, with its limit of time, and no connection was refused yet.
abbrev pub FullDials : Job → Dials → Type 0
FullDials (ServerWith o) dials =
    dials ≡ record { host = string_bytes o.host; port = o.port; timeout = o.timeout; failed = None }
FullDials job dials = ⊥

abbrev pub DialsFor : Job → Dials → Type 0
DialsFor job dials = FullDials (in_full job) dials

-- That a connection was asked for, and that one was closed, changes nothing of where they come from.
abbrev pub OpensThere : {C E : Type 0} → C → Option E → C → Type 0
OpensThere c ends c' = c' ≡ c

abbrev pub ClosesThere : {C I O : Type 0} → C → I → O → C → Type 0
ClosesThere c input output c' = c' ≡ c

-- ---- a server
-- Behind status 3 it was said, where that is asked for, why the last connection could not be made, if it could not; and
-- behind any other nothing more was.
abbrev pub SaysCause : ServerOptions → (status : ℕ) → Option DialFault → (told told' : Told) → Type 0
SaysCause o status failed told told' =
    (status ≡ 3 → SaysWhereUnreached o.verbose (string_bytes o.host) o.port failed told told')
    × ((status ≡ 3) ⊎ (told' ≡ told))

module _ {C I O : Type 0} (opens : C → Option (I × O) → C → Type 0) (closes : C → I → O → C → Type 0)
    (remaining : I → Option (List ℕ)) (contents : O → Option (List ℕ)) where
  -- With no state: the messages of the input were sent over connections that came from there, as far as the status
  -- says, and what that came to was written and said.
  abbrev pub SendsUnkept : Job → (c c' : C) → (status : ℕ) → (unread unread' held held' : Option (List ℕ))
      → (told told' : Told) → Type 0
  SendsUnkept job c c' status unread unread' held held' told told' =
      (status ≡ 0 → HasSentAll opens closes remaining contents job c c' unread unread' held held')
      × (status ≡ 1 → HasSentBefore opens closes remaining contents job c c' unread unread' held held'
      (Says told told'))
      × (status ≡ 3 → HasNotSentAll opens closes remaining contents job c c' unread unread' held held'
      (Says told told'))

  module _ {K : Type 0} (gives : (path : List ℕ) → ServerState → Progress → K → Type 0)
      (refuses : List ℕ → StateFault → Type 0) (ends : K → Result (Unit {0}) StateFault → Type 0)
      (leaves : K → KeptServer → Type 0) (is_clean : K → Type 0) (saves fails : K → KeptServer → K → Type 0) where
    -- With its state in the file at this path: so from where that had come; or the state could not be opened. Behind
    -- status 2 nothing was done.
    abbrev pub SendsKept : (path : List ℕ) → ServerOptions → (c c' : C) → (status : ℕ)
        → (unread unread' held held' : Option (List ℕ)) → (told told' : Told) → Type 0
    SendsKept path o c c' status unread unread' held held' told told' =
        (status ≡ 2)
        ⊎ (HasSent gives ends leaves is_clean saves fails opens closes remaining contents path o status unread unread' c
        c' held held' told told'
        ⊎ ((status ≡ 3) × HasLostState gives refuses path unread unread' c c' held held' told told'))

    -- The one or the other, by the options.
    abbrev pub SendsOver : ServerOptions → (c c' : C) → (status : ℕ) → (unread unread' held held' : Option (List ℕ))
        → (told told' : Told) → Type 0
    SendsOver o c c' status unread unread' held held' told told' = MatchOption o.state
        (SendsUnkept (ServerWith o) c c' status unread unread' held held' told told')
        (λ path. SendsKept (string_bytes path) o c c' status unread unread' held held' told told')

-- So over the connections that were dialled to the host and the port of the job.
module _ {I O K : Type 0} (remaining : I → Option (List ℕ)) (contents : O → Option (List ℕ))
    (gives : (path : List ℕ) → ServerState → Progress → K → Type 0) (refuses : List ℕ → StateFault → Type 0)
    (ends : K → Result (Unit {0}) StateFault → Type 0) (leaves : K → KeptServer → Type 0) (is_clean : K → Type 0)
    (saves fails : K → KeptServer → K → Type 0) where
  abbrev pub SendsDialled : ServerOptions → (status : ℕ) → (unread unread' held held' : Option (List ℕ))
      → (told told' : Told) → Type 0
  SendsDialled o status unread unread' held held' told told' =
      (d : Dials) × (d' : Dials) × (between : Told) × DialsFor (ServerWith o) d
      × SendsOver {C = Dials} {I = I} {O = O} DialsAgain ClosesThere remaining contents gives refuses ends leaves
      is_clean saves fails o d d' status unread unread' held held' told between
      × SaysCause o status d'.failed between told'

  abbrev pub ComesOfServer : Job → (status : ℕ) → (unread unread' held held' : Option (List ℕ)) → (told told' : Told)
      → Type 0
  ComesOfServer (Server site encoder host port tries timeout turns reconnects window) status unread unread' held held'
      told told' =
      let job = Server site encoder host port tries timeout turns reconnects window in
      (d : Dials) × (d' : Dials) × DialsFor job d
      × SendsUnkept {C = Dials} {I = I} {O = O} DialsAgain ClosesThere remaining contents job d d' status unread unread'
      held held' told told'
  ComesOfServer (ServerWith o) status unread unread' held held' told told' =
      SendsDialled o status unread unread' held held' told told'
  ComesOfServer job status unread unread' held held' told told' = Unit {0}

-- ---- an encoder
-- With no state: connections that came to the port of the job were served, as far as the status says, and what that
-- came to was written and said.
abbrev pub ServesThere : {I O : Type 0} → (remaining : I → Option (List ℕ)) → (contents : O → Option (List ℕ)) → Job
    → (status : ℕ) → (held held' : Option (List ℕ)) → (told told' : Told) → Type 0
ServesThere {I} {O} remaining contents job status held held' told told' =
    (port : ℕ) × (port' : ℕ) × ListensFor job port
    × (status ≡ 0 → ServedAll {C = ℕ} {I = I} {O = O} OpensThere ClosesThere remaining contents job port port' held
    held')
    × (status ≡ 3 → HasNotServedAll {C = ℕ} {I = I} {O = O} OpensThere ClosesThere remaining contents job port port'
    held held' (Says told told'))

-- With its state in a file: it is a device that serves connections that came to its port, of which those of another
-- protocol are closed, and that tells how each ended and no more.
abbrev pub ServesKeptThere : {I O K : Type 0} → (screened : Screen I → Option (List ℕ))
    → (contents : O → Option (List ℕ)) → (gives : List ℕ → EncoderState Store → K → Type 0)
    → (refuses : List ℕ → StateFault → Type 0) → (ends : K → Result (Unit {0}) StateFault → Type 0) → (most room : ℕ)
    → (leaves : K → Kept Store → Type 0) → (is_clean : K → Type 0) → (saves fails : K → Kept Store → K → Type 0)
    → EncoderOptions → (port status : ℕ) → (held held' : Option (List ℕ)) → (told told' : Told) → Type 0
ServesKeptThere {I} {O} screened contents gives refuses ends most room leaves is_clean saves fails o port status held
    held' told told' =
    (s : Screening ℕ) × (s' : Screening ℕ) × (loan : ℕ) × (log : Log) × (s.connect ≡ port) × (log.held ≡ held')
    × HasServedDevice {C = Screening ℕ} {I = Screen I} {O = O} (OpensScreened OpensThere) (ClosesScreened ClosesThere)
    screened contents gives refuses ends most room leaves is_clean saves fails o s s' (plain_log loan held) log told
    told' status

-- So where the options have a file and a port.
abbrev pub ServesPlain : {I O K : Type 0} → (screened : Screen I → Option (List ℕ))
    → (contents : O → Option (List ℕ)) → (gives : List ℕ → EncoderState Store → K → Type 0)
    → (refuses : List ℕ → StateFault → Type 0) → (ends : K → Result (Unit {0}) StateFault → Type 0) → (most room : ℕ)
    → (leaves : K → Kept Store → Type 0) → (is_clean : K → Type 0) → (saves fails : K → Kept Store → K → Type 0)
    → EncoderOptions → (status : ℕ) → (held held' : Option (List ℕ)) → (told told' : Told) → Type 0
ServesPlain screened contents gives refuses ends most room leaves is_clean saves fails o status held held' told told' =
    MatchOption o.state (Unit {0}) (λ path. MatchOption o.port (Unit {0}) (λ port.
    ServesKeptThere screened contents gives refuses ends most room leaves is_clean saves fails o port status held held'
    told told'))
