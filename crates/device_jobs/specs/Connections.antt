-- The connections of a bad line from one beginning of the encoder to the next (profile).
use Rattle.std.specs.Prelude.{◌≡◌, ◌⊎◌, Bool, true, false, Option, None}
use Rattle.bad_line.specs.Connections.{Line, AsksRestart}

-- The line, and whether there was no connection to be had since the encoder begins anew.
pub record Stretch (C : Type 0) : Type 0 where
  pub line : Line C
  pub is_over : Bool

-- The next connection of the line; or none, since the encoder begins anew, which is asked first.
abbrev pub OpensUpTo : {C I O : Type 0} → (opens : Line C → Option (I × O) → Line C → Type 0) → Stretch C
    → Option (I × O) → Stretch C → Type 0
OpensUpTo opens s ends s' =
    (AsksRestart s.line true s'.line × (ends ≡ None) × (s'.is_over ≡ true))
    ⊎ ((between : Line _) × AsksRestart s.line false between × opens between ends s'.line
    × (s'.is_over ≡ s.is_over))

-- One was given back to the line.
abbrev pub ClosesOn : {C I O : Type 0} → (closes : Line C → I → O → Line C → Type 0) → Stretch C → I → O → Stretch C
    → Type 0
ClosesOn closes s input output s' = closes s.line input output s'.line × (s'.is_over ≡ s.is_over)
