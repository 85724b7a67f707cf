-- Where a device listens (profile).
use Rattle.std.specs.Prelude.{◌≡◌, ◌≢◌, ◌⊎◌, ℕ, zero, suc, Bool, true, false, List, codes, Option, Some, None}
use Rattle.std.specs.declared.net.ip_addr.IpAddr.{IpAddr}
use Rattle.std.specs.declared.net.socket_addr.SocketAddr.{SocketAddr}
use Rattle.std.specs.Net.Grammar.{IsIpText, IsSocketText}
use Rattle.std.specs.Net.Socket.{socket_ip, socket_port, IsPlainSocket}
use Rattle.device_edges.specs.declared.address.AddressFault.{AddressFault}
use Rattle.device_edges.specs.declared.address.AddressFault.TheVariants.{NoAddress, NoPort, TwoPorts, PortZero}
use Rattle.device_edges.specs.Screen.{Notice, SaysFirst}

-- ---- What is said where the system has no descriptor or no memory for one more connection.

abbrev pub room_line : List ℕ
room_line = codes "uecp: too many files are open: who connects now waits\n"

-- The system was asked for one more, and lacked room for it, or not: that it did is said, once until it did not.
abbrev pub TellsRoom : (lacks : Bool) → (n n' : Notice) → Type 0
TellsRoom true n n' = SaysFirst room_line n.is_told n n'
TellsRoom false n n' = n' ≡ record n { is_told = false }

-- ---- Where connections come from.

-- What is listened on; the limit of a connection on which nothing comes, in seconds, if there is one; and what was said
-- of no room for one more.
pub record Listens : Type 0 where
  pub place : SocketAddr
  pub idle : Option ℕ
  pub notice : Notice

-- The system was asked for one more connection at most once: that is told of, and nothing else is changed.
abbrev pub Asks : (l l' : Listens) → Type 0
Asks l l' =
    (l' ≡ l) ⊎ ((lacks : Bool) × TellsRoom lacks l.notice l'.notice × (l' ≡ record l { notice = l'.notice }))

-- So often, one time after another.
abbrev pub AsksTimes : (times : ℕ) → (l l' : Listens) → Type 0
AsksTimes zero l l' = l' ≡ l
AsksTimes (suc times) l l' = (between : Listens) × AsksTimes times l between × Asks between l'

-- Connections come and go, and nothing is changed but what is told of that.
abbrev pub ComesTo : {I O : Type 0} → Listens → Option (I × O) → Listens → Type 0
ComesTo l ends l' = (times : ℕ) × AsksTimes times l l'

abbrev pub GoesFrom : {I O : Type 0} → Listens → I → O → Listens → Type 0
GoesFrom l input output l' = Asks l l'

-- ---- The address and port that are asked for.

-- The text writes an IP address with no port (RFC 4291, 2.2, for version 6).
abbrev pub IsAddress : List ℕ → Type 0
IsAddress text = (address : IpAddr) × IsIpText text address

-- The text writes an IP address with a port, that of version 6 in brackets (RFC 3986, 3.2.2).
abbrev pub IsAddressWithPort : List ℕ → Type 0
IsAddressWithPort text = (place : SocketAddr) × IsSocketText text place

-- The text and the port beside it, if there is one, ask for this address and port: both are in the text; or the text is
-- an address, and the port is the one beside it. The port is not 0.
abbrev pub IsPlace : (text : List ℕ) → (port : Option ℕ) → SocketAddr → Type 0
IsPlace text None place = IsSocketText text place × (socket_port place ≢ 0)
IsPlace text (Some port) place = IsIpText text (socket_ip place) × IsPlainSocket place port × (port ≢ 0)

-- The text and the port beside it ask for no address and port, for this: the text is no address; there is no port;
-- there are two; or the port is 0.
abbrev pub IsNoPlace : (text : List ℕ) → (port : Option ℕ) → AddressFault → Type 0
IsNoPlace text port NoAddress = ¬ (IsAddress text) × ¬ (IsAddressWithPort text)
IsNoPlace text None NoPort = IsAddress text × ¬ (IsAddressWithPort text)
IsNoPlace text (Some port) NoPort = ⊥
IsNoPlace text None TwoPorts = ⊥
IsNoPlace text (Some port) TwoPorts = IsAddressWithPort text × ¬ (IsAddress text)
IsNoPlace text None PortZero = (place : SocketAddr) × IsSocketText text place × (socket_port place ≡ 0)
IsNoPlace text (Some port) PortZero = IsAddress text × (port ≡ 0)
