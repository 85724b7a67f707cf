-- From where connections are taken (RFC 4632, 3.1, for what a network is).
use Rattle.std.specs.Prelude.{◌≡◌, ◌<◌, ◌≤◌, ◌==◌, ◌*◌, ◌-◌, ◌/◌, ◌%◌, ◌^◌, ℕ, List, [], ◌∷◌, length, take, slice_index}
use Rattle.std.specs.Prelude.{Option, Some, None}
use Rattle.std.specs.Bool.{⊤}
use Rattle.std.specs.List.{AllZip, Contains, slice_split}
use Rattle.std.specs.Net.Addr.{ipv4_octets, ipv6_octets, MatchIp, IsCanonicalOf}
use Rattle.std.specs.Net.Grammar.{IsIpText, IsNumber}
use Rattle.std.specs.declared.net.ip_addr.IpAddr.{IpAddr}
use Rattle.std.specs.declared.net.ip_addr.IpAddr.TheVariants.{V4, V6}
use Rattle.device_edges.specs.declared.allowed.Network.{Network}

-- The first so many bits of these bytes are the same: the bytes that lie in them whole, and what is left of the next
-- one.
pub record SharesFirst (bits : ℕ) (bytes others : List ℕ) : Type 0 where
  pub within : bits ≤ 8 * length bytes
  pub within_others : bits ≤ 8 * length others
  pub whole : take (bits / 8) bytes ≡ take (bits / 8) others
  pub rest : 0 < bits % 8
      → slice_index bytes (bits / 8) / 2 ^ (8 - bits % 8) ≡ slice_index others (bits / 8) / 2 ^ (8 - bits % 8)

-- An address has the first bits of another, of the same version.
abbrev pub HasFirst : (bits : ℕ) → (own address : IpAddr) → Type 0
HasFirst bits (V4 own) (V4 address) = SharesFirst bits (ipv4_octets own) (ipv4_octets address)
HasFirst bits (V4 own) (V6 address) = ⊥
HasFirst bits (V6 own) (V4 address) = ⊥
HasFirst bits (V6 own) (V6 address) = SharesFirst bits (ipv6_octets own) (ipv6_octets address)

-- An address is in a network.
abbrev pub IsIn : Network → IpAddr → Type 0
IsIn network address = HasFirst network.bits network.address address

-- An address is in one of these networks.
abbrev pub IsInOne : List Network → IpAddr → Type 0
IsInOne networks address = (network : Network) × Contains networks network × IsIn network address

-- The address that one stands for: of one of version 6 that holds one of version 4 (RFC 4291, 2.5.5.2) that one, and
-- else itself.
abbrev pub StandsFor : (address own : IpAddr) → Type 0
StandsFor address own = MatchIp address (λ _. own ≡ address) (λ a. IsCanonicalOf a own)

-- Connections from an address are taken: what it stands for is in one of these networks; with no list they are from
-- everywhere.
abbrev pub IsTaken : Option (List Network) → IpAddr → Type 0
IsTaken None address = ⊤
IsTaken (Some networks) address = (own : IpAddr) × StandsFor address own × IsInOne networks own

-- ---- A list as a text.

-- How many bits an address has.
abbrev pub address_bits : IpAddr → ℕ
address_bits (V4 address) = 32
address_bits (V6 address) = 128

-- A network is written by what stands between slashes: an address, which is in it alone; or an address, and how many of
-- its first bits count, in decimal digits.
abbrev pub IsNetwork : (pieces : List (List ℕ)) → Network → Type 0
IsNetwork (address ∷ []) network = IsIpText address network.address × (network.bits ≡ address_bits network.address)
IsNetwork (address ∷ bits ∷ []) network =
    IsIpText address network.address × IsNumber 10 bits network.bits × (network.bits ≤ address_bits network.address)
IsNetwork pieces network = ⊥

-- A text writes a network, with at most one slash in it.
abbrev pub IsNetworkText : List ℕ → Network → Type 0
IsNetworkText text network = IsNetwork (slice_split (λ byte. byte == 47) text) network

-- What stands between the commas of a text writes these networks, in this order.
abbrev pub IsListText : List ℕ → List Network → Type 0
IsListText text networks = AllZip IsNetworkText (slice_split (λ byte. byte == 44) text) networks
