-- What the parts of taking a line say to one another.
use Rattle.std.specs.Prelude.{◌≡◌, ◌<◌, ◌≤◌, ℕ, List, [], ◌∷◌, ◌++◌, length, take}
use Rattle.line_feed.specs.declared.feed.Next.{Next}
use Rattle.line_feed.specs.declared.feed.Next.TheVariants.{Line, TooLong, End}
use Rattle.line_feed.specs.Lines.{HasNoEnd}

-- So many bytes stand up to and with the first line feed.
pub record EndsFirst (bytes : List ℕ) (count : ℕ) : Type 0 where
  pub text : List ℕ
  pub no_end : HasNoEnd text
  pub front : take count bytes ≡ text ++ 0x0A ∷ []
  pub within : count ≤ length bytes

-- The line was put into what is held, or passed over where it has more than 65,536 bytes.
abbrev pub IsPut : (line held : List ℕ) → Next → Type 0
IsPut line held Line = (held ≡ line) × (length line ≤ 65536)
IsPut line held TooLong = (held ≡ []) × (65536 < length line)
IsPut line held End = ⊥
