-- Connections that are only opened; a reader has to believe it. Source: profile.
use Rattle.std.specs.Prelude.{◌≡◌}

-- Both ends of a connection are let go where it is done with, and what opens connections stays as it is.
abbrev pub LetsGo : {C I O : Type 0} → C → I → O → C → Type 0
LetsGo c input output c' = c' ≡ c
