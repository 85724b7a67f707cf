-- The tokens of a line of phrases, how they stand in it, and how they are written. Characters are their Unicode numbers
-- (profile).
use Rattle.std.specs.Prelude.{◌≡◌, ℕ, ◌≤◌, ◌==◌, ◌&&◌, nat_le, not, Bool, true, false, List, [], ◌∷◌, ◌++◌, length}
use Rattle.std.specs.Prelude.{flat_map, replicate, chars, encode_utf8_all, IsUtf8}
use Rattle.std.specs.List.{list_all, AllByRecursion}
use Rattle.rds_text.specs.Quoted.{Spells, written}

-- A word, a text between quotes as the bytes that it spells, or the end of a phrase.
pub data Token : Type 0 where
  Word : (characters : List ℕ) → Token
  Quoted : (bytes : List ℕ) → Token
  Semicolon : Token

-- ---- What a token may be.

-- A printable character of ASCII that is no space, quote or semicolon.
abbrev pub is_word_character : ℕ → Bool
is_word_character c = nat_le 0x21 c && nat_le c 0x7E && not (c == 0x22) && not (c == 0x3B)

-- A word has 1 to 16 of them.
abbrev pub IsWord : List ℕ → Type 0
IsWord w = (1 ≤ length w) × (length w ≤ 16) × (list_all is_word_character w ≡ true)

-- What a token holds: a word, or at most 64 bytes.
abbrev pub IsToken : Token → Type 0
IsToken (Word w) = IsWord w
IsToken (Quoted bytes) = (length bytes ≤ 64) × AllByRecursion (λ b. b ≤ 0xFF) bytes
IsToken Semicolon = Unit {0}

-- ---- Read.

-- The characters spell these bytes one after another, as the characters of a text between quotes do.
abbrev pub SpellsEach : (text bytes : List ℕ) → Type 0
SpellsEach text [] = text ≡ []
SpellsEach text (byte ∷ bytes) =
    (front more : List ℕ) × (text ≡ front ++ more) × Spells front byte × SpellsEach more bytes

-- The characters are the token: a word as it stands, a quoted text with its quotes, a semicolon.
abbrev pub SpellsToken : Token → List ℕ → Type 0
SpellsToken (Word w) text = IsWord w × (text ≡ w)
SpellsToken (Quoted bytes) text =
    (inner : List ℕ) × (text ≡ 0x22 ∷ (inner ++ 0x22 ∷ [])) × SpellsEach inner bytes × (length bytes ≤ 64)
SpellsToken Semicolon text = text ≡ 0x3B ∷ []

-- The text goes on with a character of a word.
abbrev pub goes_on : List ℕ → Bool
goes_on [] = false
goes_on (c ∷ more) = is_word_character c

-- Where a token ends: a word before the first character that is none of a word, the others at their last.
abbrev pub EndsBefore : Token → (more : List ℕ) → Type 0
EndsBefore (Word w) more = goes_on more ≡ false
EndsBefore (Quoted bytes) more = Unit {0}
EndsBefore Semicolon more = Unit {0}

-- The tokens stand in the text in this order, any number of spaces before each and behind the last, and nothing else
-- does.
abbrev pub Lays : List Token → List ℕ → Type 0
Lays [] text = text ≡ replicate (length text) 0x20
Lays (t ∷ ts) text =
    (blanks : ℕ) × (front more : List ℕ) × (text ≡ replicate blanks 0x20 ++ (front ++ more)) × SpellsToken t front
    × EndsBefore t more × Lays ts more

-- No tokens stand in the text so.
abbrev pub LaysNone : List ℕ → Type 0
LaysNone text = (ts : List Token) → Lays ts text → ⊥

-- ---- Written.

-- How a token is written.
abbrev pub written_token : Token → List ℕ
written_token (Word w) = w
written_token (Quoted bytes) = 0x22 ∷ (flat_map written bytes ++ 0x22 ∷ [])
written_token Semicolon = 0x3B ∷ []

-- How tokens are written behind others: with a space before each but a semicolon.
abbrev pub written_behind : List Token → List ℕ
written_behind [] = []
written_behind (Word w ∷ ts) = 0x20 ∷ (written_token (Word w) ++ written_behind ts)
written_behind (Quoted bytes ∷ ts) = 0x20 ∷ (written_token (Quoted bytes) ++ written_behind ts)
written_behind (Semicolon ∷ ts) = written_token Semicolon ++ written_behind ts

-- How tokens are written, where they are the first of a line.
abbrev pub written_tokens : List Token → List ℕ
written_tokens [] = []
written_tokens (t ∷ ts) = written_token t ++ written_behind ts

-- ---- Laws.

-- Law: a text has one list of tokens at most.
abbrev pub IsOneReading : Type 0
IsOneReading = (text : List ℕ) (ts us : List Token) → Lays ts text → Lays us text → ts ≡ us

-- Law: what is written of tokens reads as these tokens.
abbrev pub IsReadBack : Type 0
IsReadBack = (ts : List Token) → AllByRecursion IsToken ts → Lays ts (written_tokens ts)

-- Law: what is written of tokens are characters that UTF-8 takes and gives back.
abbrev pub IsThroughUtf8 : Type 0
IsThroughUtf8 = (ts : List Token) → AllByRecursion IsToken ts
    → IsUtf8 (encode_utf8_all (written_tokens ts))
    × (chars (encode_utf8_all (written_tokens ts)) ≡ written_tokens ts)
