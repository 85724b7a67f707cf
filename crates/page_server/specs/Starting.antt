-- Where a page is served (profile).
use Rattle.std.specs.Prelude.{◌⊎◌, ℕ, List, codes, Option, Some, None, unwrap_or, option_map}
use Rattle.std.specs.String.{string_bytes}
use Rattle.std.specs.declared.net.socket_addr.SocketAddr.{SocketAddr}
use Rattle.commands.specs.declared.page_options.PageOptions.{PageOptions}
use Rattle.device_edges.specs.Place.{IsPlace}

-- The port at which a page is found that is told no other: the one given, and else 8080.
abbrev pub port_of : Option ℕ → Option ℕ
port_of port = Some (unwrap_or port 8080)

-- At this machine alone where no address is given. Else where the text and the port beside it ask for; where neither
-- has a port, at 8080.
abbrev pub IsPlaceAt : (listen : Option (List ℕ)) → (port : Option ℕ) → SocketAddr → Type 0
IsPlaceAt None port place = IsPlace (codes "127.0.0.1") (port_of port) place
IsPlaceAt (Some text) port place = IsPlace text port place ⊎ IsPlace text (port_of port) place

-- The options have the page served at this address and port.
abbrev pub IsPlaceOf : PageOptions → SocketAddr → Type 0
IsPlaceOf options place = IsPlaceAt (option_map string_bytes options.listen) options.port place
