-- A device over TCP: where it listens, and what comes of it (profile).
use Rattle.std.specs.Prelude.{◌≡◌, ◌⊎◌, ◌≤◌, ◌&&◌, ℕ, Bool, false, List, codes, Option, Some, None, option_map}
use Rattle.std.specs.String.{string_bytes}
use Rattle.std.specs.declared.net.socket_addr.SocketAddr.{SocketAddr}
use Rattle.commands.specs.declared.encoder_options.EncoderOptions.{EncoderOptions}
use Rattle.device_edges.specs.declared.address.AddressFault.{AddressFault}
use Rattle.device_edges.specs.declared.allowed.Network.{Network}
use Rattle.device_edges.specs.Allowed.{IsListText}
use Rattle.device_edges.specs.Place.{Listens, IsPlace, IsNoPlace}
use Rattle.device_edges.specs.Screen.{Screening}
use Rattle.device_serving.specs.Logging.{Log}
use Rattle.device_jobs.specs.Limits.{limit_of}
use Rattle.notices.specs.Told.{Told}

-- The text of an address to listen at: this machine alone where none is given.
abbrev pub listen_text : Option (List ℕ) → List ℕ
listen_text None = codes "127.0.0.1"
listen_text (Some text) = text

-- The job has it listen at this address and port.
abbrev pub IsPlaceOf : EncoderOptions → SocketAddr → Type 0
IsPlaceOf job place = IsPlace (listen_text (option_map string_bytes job.listen)) job.port place

-- It asks for no address and port, for this.
abbrev pub IsNoPlaceOf : EncoderOptions → AddressFault → Type 0
IsNoPlaceOf job fault = IsNoPlace (listen_text (option_map string_bytes job.listen)) job.port fault

-- A list of addresses and networks is that of this text, and none where there is none.
abbrev pub IsListOf : Option (List ℕ) → Option (List Network) → Type 0
IsListOf None None = Unit {0}
IsListOf None (Some networks) = ⊥
IsListOf (Some text) None = ⊥
IsListOf (Some text) (Some networks) = IsListText text networks

-- The job has connections taken from these addresses and networks alone; from anywhere where it has no list.
abbrev pub IsAllowedOf : EncoderOptions → Option (List Network) → Type 0
IsAllowedOf job allowed = IsListOf (option_map string_bytes job.allow) allowed

-- Connections come where the job has it listen, with its limit; and neither that one is another protocol's nor that
-- there is no room for one more was said yet.
abbrev pub ListensFor : EncoderOptions → Screening Listens → Type 0
ListensFor job s =
    IsPlaceOf job s.connect.place × (s.connect.idle ≡ limit_of job.idle) × (s.connect.notice.is_told ≡ false)
    × (s.notice.is_told ≡ false)

-- The log that the job asks for, of which nothing was told yet.
abbrev pub log_of : EncoderOptions → (loan : ℕ) → (held : Option (List ℕ)) → Log
log_of job loan held = record {
  form = job.form;
  timed = job.log && job.time;
  told = job.log;
  number = 0;
  loan = loan;
  held = held;
  fault = None;
}

-- A device served so, and told it in the log that the job asks for.
abbrev pub ServesTold : {C : Type 0}
    → (serves : (c c' : C) → (l l' : Log) → (said said' : Told) → (status : ℕ) → Type 0)
    → EncoderOptions → (c c' : C) → (held held' : Option (List ℕ)) → (said said' : Told) → (status : ℕ) → Type 0
ServesTold serves job c c' held held' said said' status =
    (loan : ℕ) × (l' : Log) × serves c c' (log_of job loan held) l' said said' status × (l'.held ≡ held')

-- So over connections that came for the job. Or it did not begin, and told nothing.
abbrev pub HasServedTcp :
    (serves : (s s' : Screening Listens) → (l l' : Log) → (said said' : Told) → (status : ℕ) → Type 0)
    → EncoderOptions → (held held' : Option (List ℕ)) → (said said' : Told) → (status : ℕ) → Type 0
HasServedTcp serves job held held' said said' status =
    ((s : Screening Listens) × (s' : Screening Listens) × ListensFor job s
    × ServesTold serves job s s' held held' said said' status)
    ⊎ ((held' ≡ held) × (2 ≤ status) × (status ≤ 3))
