-- From where an address is (profile; RFC 4291, 2.5.1 and 2.5.5.2).
use Rattle.std.specs.Prelude.{◌≡◌, ◌+◌, ◌*◌, ◌/◌, ◌^◌, ℕ}
use Rattle.std.specs.Net.Addr.{ipv4_bits, ipv6_bits, MatchIp, IsCanonicalOf}
use Rattle.std.specs.declared.net.ip_addr.IpAddr.{IpAddr}
use Rattle.std.specs.declared.net.ip_addr.IpAddr.TheVariants.{V4, V6}

-- The origin of an address that stands for no other: of one of version 4 it, as one of version 6 holds it; of one of
-- version 6 its first 64 bits, with zeros behind them: one end of a network.
abbrev pub own_origin : IpAddr → ℕ
own_origin (V4 a) = 65535 * 2 ^ 32 + ipv4_bits a
own_origin (V6 a) = ipv6_bits a / 2 ^ 64 * 2 ^ 64

-- The origin of an address: of one of version 6 that holds one of version 4 the origin of that one.
abbrev pub IsOrigin : IpAddr → (origin : ℕ) → Type 0
IsOrigin address origin = (own : IpAddr) × MatchIp address (λ _. own ≡ address) (λ a. IsCanonicalOf a own)
    × (origin ≡ own_origin own)
