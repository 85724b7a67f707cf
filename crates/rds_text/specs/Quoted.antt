-- A text between quotes: how bytes are written there as characters of Unicode, and read back (profile).
use Rattle.std.specs.Prelude.{◌≡◌, ◌≢◌, ◌⊎◌, ℕ, ◌+◌, ◌*◌, ◌/◌, ◌%◌, ◌<◌, ◌==◌, List, [], ◌∷◌, ◌++◌, Some}
use Rattle.std.specs.Prelude.{if◌then◌else◌, nat_lt, length}
use Rattle.std.specs.Option.{option_map_or}
use Rattle.std.specs.Char.{digit_value}
use Rattle.rds_text.specs.BasicSet.{character_of}

-- ---- Written.

-- The digit of a number below 16, in capitals.
abbrev pub hex_digit : ℕ → ℕ
hex_digit n = if nat_lt n 10 then n + 0x30 else n + 0x37

-- How a byte is written: a quote and a backslash behind a backslash, every other character as itself, and a byte that
-- stands for none as \x and its two digits.
abbrev pub written : ℕ → List ℕ
written byte =
    if byte == 0x22 then 0x5C ∷ 0x22 ∷ []
    else if byte == 0x5C then 0x5C ∷ 0x5C ∷ []
    else option_map_or (λ c. c ∷ []) (character_of byte)
    (0x5C ∷ 0x78 ∷ hex_digit (byte / 16) ∷ hex_digit (byte % 16) ∷ [])

-- ---- Read.

-- The ways to write one byte: a character as it stands; one behind a backslash; \x and two digits, the byte's; \u and
-- four digits, the character's.
pub data Way : Type 0 where
  Plain : (character : ℕ) → Way
  Escaped : (character : ℕ) → Way
  ByNumber : (high low : ℕ) → Way
  ByCharacter : (first second third fourth : ℕ) → Way

-- The characters of a way.
abbrev pub characters : Way → List ℕ
characters (Plain character) = character ∷ []
characters (Escaped character) = 0x5C ∷ character ∷ []
characters (ByNumber high low) = 0x5C ∷ 0x78 ∷ high ∷ low ∷ []
characters (ByCharacter a b c d) = 0x5C ∷ 0x75 ∷ a ∷ b ∷ c ∷ d ∷ []

-- The character is a hexadecimal digit, of either case.
abbrev pub IsHexDigit : ℕ → Type 0
IsHexDigit character = digit_value character < 16

-- The byte that is meant so.
abbrev pub Means : Way → ℕ → Type 0
Means (Plain character) byte = (character ≢ 0x22) × (character ≢ 0x5C) × (character_of byte ≡ Some character)
Means (Escaped character) byte = ((character ≡ 0x22) ⊎ (character ≡ 0x5C)) × (byte ≡ character)
Means (ByNumber high low) byte =
    IsHexDigit high × IsHexDigit low × (byte ≡ 16 * digit_value high + digit_value low)
Means (ByCharacter a b c d) byte =
    IsHexDigit a × IsHexDigit b × IsHexDigit c × IsHexDigit d
    × (character_of byte ≡ Some (4096 * digit_value a + (256 * digit_value b + (16 * digit_value c + digit_value d))))

-- These characters spell the byte.
abbrev pub Spells : List ℕ → ℕ → Type 0
Spells text byte = (way : Way) × (text ≡ characters way) × Means way byte

-- So many characters at the front of the text spell the byte.
pub record SpellsFirst (text : List ℕ) (byte count : ℕ) : Type 0 where
  pub front : List ℕ
  pub more : List ℕ
  pub whole : text ≡ front ++ more
  pub counted : count ≡ length front
  pub spells : Spells front byte

-- No front of the text spells a byte.
abbrev pub SpellsNone : List ℕ → Type 0
SpellsNone text = (front more : List ℕ) (byte : ℕ) → text ≡ front ++ more → Spells front byte → ⊥

-- ---- Laws.

-- Law: what is written of a byte spells it.
abbrev pub IsReadBack : Type 0
IsReadBack = (byte : ℕ) → byte < 0x100 → Spells (written byte) byte

-- Law: no spelling of a byte begins another, and each spells one byte.
abbrev pub IsOneByte : Type 0
IsOneByte = (a b : List ℕ) (x y : ℕ) (more : List ℕ) → Spells a x → Spells b y → a ++ more ≡ b → (x ≡ y) × (more ≡ [])
