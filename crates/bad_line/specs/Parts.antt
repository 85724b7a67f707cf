-- What the parts of reading a rule say to one another.
use Rattle.std.specs.Prelude.{◌≢◌, ℕ, List, [], ◌∷◌}

-- The text begins with a byte that is no space.
abbrev pub BeginsWord : List ℕ → Type 0
BeginsWord [] = ⊥
BeginsWord (byte ∷ text) = byte ≢ 0x20
