-- Where connections over TCP come from, and what is said where there is none (profile).
use Rattle.std.specs.Prelude.{◌≡◌, ℕ, List, ◌++◌, codes, decimal, Option, Some, None}
use Rattle.uecp_net.specs.declared.tcp.DialFault.{DialFault}
use Rattle.uecp_net.specs.declared.tcp.DialFault.TheVariants.{NoSuchHost, Refused, TimedOut, Unreachable, Failed}
use Rattle.uecp_net.specs.Tcp.{Dials, DialsAgain}
use Rattle.notices.specs.Told.{Told, Says}

-- What is dialled, and after how many milliseconds a read that brings nothing fails.
pub record DialsQuietly : Type 0 where
  pub dials : Dials
  pub quiet : ℕ

-- Dialling again changes the limit of a read as little as what is dialled.
abbrev pub DialsQuietlyAgain : {E : Type 0} → DialsQuietly → Option E → DialsQuietly → Type 0
DialsQuietlyAgain d ends d' = DialsAgain d.dials ends d'.dials × (d'.quiet ≡ d.quiet)

-- what is said of a fault
abbrev pub dial_words : DialFault → List ℕ
dial_words NoSuchHost = codes "no such host"
dial_words Refused = codes "refused"
dial_words TimedOut = codes "timed out"
dial_words Unreachable = codes "unreachable"
dial_words Failed = codes "failed"

-- the line of a host and a port at which no connection could be made
abbrev pub dial_line : (host : List ℕ) (port : ℕ) → DialFault → List ℕ
dial_line host port fault = codes "uecp: " ++ (host
    ++ (codes " port " ++ (decimal port ++ (codes ": " ++ (dial_words fault ++ codes "\n")))))

-- Where one could not be made its line was said; else nothing was.
abbrev pub SaysUnreached : (host : List ℕ) (port : ℕ) → Option DialFault → (told told' : Told) → Type 0
SaysUnreached host port None told told' = told' ≡ told
SaysUnreached host port (Some fault) told told' = Says told told' (dial_line host port fault)
