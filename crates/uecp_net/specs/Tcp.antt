-- Where TCP connections come from. Nothing is claimed of what a socket gives or takes. Source: profile.
use Rattle.std.specs.Prelude.{◌≡◌, ◌≢◌, ℕ, List, Option, Some, None}
use Rattle.uecp_net.specs.declared.tcp.DialFault.{DialFault}

-- What is dialled: a host, by its name or address, and a port. How many milliseconds a connection may take to be made,
-- and a read or a write of it to bring or take something; and why the last one that was asked for could not be made, if
-- so.
pub record Dials : Type 0 where
  pub host : List ℕ
  pub port : ℕ
  pub timeout : ℕ
  pub failed : Option DialFault

-- Dialling changes neither what is dialled nor its limit. Where there was no connection to be had it is kept why, and
-- else nothing is.
abbrev pub DialsAgain : {E : Type 0} → Dials → Option E → Dials → Type 0
DialsAgain d None d' = (d' ≡ record d { failed = d'.failed }) × (d'.failed ≢ None)
DialsAgain d (Some ends) d' = d' ≡ record d { failed = None }
