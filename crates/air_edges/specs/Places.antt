-- Where an encoder on the air is found (profile).
use Rattle.std.specs.Prelude.{◌≡◌, Bool, true, Option, Some, None}
use Rattle.air_edges.specs.declared.tcp.Addresses.{Addresses}

-- Where is listened, and whether a connection of the studio is open.
pub record Listening : Type 0 where
  pub places : Addresses
  pub is_open : Bool

-- A connection of the studio is accepted, or none.
abbrev pub OpensOne : {E : Type 0} → Listening → Option E → Listening → Type 0
OpensOne l None l' = l' ≡ l
OpensOne l (Some ends) l' = l' ≡ record l { is_open = true }
