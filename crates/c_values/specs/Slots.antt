-- What a slot owns (profile).
use Rattle.std.specs.Prelude.{Option, Some, None}
use base.Fml.{Fml, ftrue}

-- What is owned of the object of a slot; nothing where there is none (profile).
abbrev pub owned : {T : Type 0} → (T → Fml) → Option T → Fml
owned owns None = ftrue
owned owns (Some value) = owns value
