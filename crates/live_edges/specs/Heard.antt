-- A reader, and what is noted of its reads (profile).
use Rattle.std.specs.Prelude.{Bool, false}

-- A reader; whether a reply came that was waited for; and whether it ended, or failed otherwise than by its limit of
-- time.
pub record Heard (R : Type 0) : Type 0 where
  pub reader : R
  pub heard : Bool
  pub broken : Bool

-- A reader of which nothing was read yet.
abbrev pub unheard : {R : Type 0} → R → Heard R
unheard reader = record { reader = reader; heard = false; broken = false }
