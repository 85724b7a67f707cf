-- How the strings of a line of phrases are made to fit, and nothing else of it (profile). Characters are their Unicode
-- numbers.
use Rattle.std.specs.Prelude.{◌≡◌, ◌⊎◌, ℕ, ◌==◌, ◌&&◌, ◌||◌, not, Bool, true, false, List, [], ◌∷◌, ◌++◌, take, chars}
use Rattle.std.specs.Prelude.{encode_utf8_all, flat_map}
use Rattle.std.specs.Char.{to_ascii_lowercase}
use Rattle.std.specs.List.{list_all}
use Rattle.std.specs.Str.Lossy.{utf8_lossy}
use Rattle.unicode_normalization.specs.Forms.{nfc}
use Rattle.rds_text.specs.Quoted.{Spells, SpellsNone, written}
use Rattle.titles.specs.Fitting.{AreFitted}
use Rattle.titles.specs.Cut.{IsCut}

-- ---- Between quotes.

-- A character that stands for itself between quotes: no quote and no backslash.
abbrev pub is_plain : ℕ → Bool
is_plain c = not (c == 0x22) && not (c == 0x5C)

-- A backslash begins the text, and all of it spells one byte.
abbrev pub IsEscape : (text : List ℕ) → (byte : ℕ) → Type 0
IsEscape text byte = (more : List ℕ) × (text ≡ 0x5C ∷ more) × Spells text byte

-- What stands between quotes, with these escapes in it, says these bytes, made to fit: what stands before an escape and
-- behind the last are characters, composed and then each what it is by itself; an escape is the byte that it spells.
abbrev pub SayFitted : (escapes : List (List ℕ)) → (inner bytes : List ℕ) → Type 0
SayFitted [] inner bytes = (list_all is_plain inner ≡ true) × AreFitted (nfc inner) bytes
SayFitted (escape ∷ escapes) inner bytes =
    (run more first others : List ℕ) × (byte : ℕ) × (inner ≡ run ++ (escape ++ more)) × (list_all is_plain run ≡ true)
    × AreFitted (nfc run) first × IsEscape escape byte × (bytes ≡ first ++ (byte ∷ others))
    × SayFitted escapes more others

-- So with some escapes, or none.
abbrev pub SaysFitted : (inner bytes : List ℕ) → Type 0
SaysFitted inner bytes = (escapes : List (List ℕ)) × SayFitted escapes inner bytes

-- A backslash stands in front that begins no escape.
abbrev pub IsNoEscape : (text : List ℕ) → Type 0
IsNoEscape text = (more : List ℕ) × (text ≡ 0x5C ∷ more) × SpellsNone text

-- Behind a quote stands no string: no quote closes it, or before one does a backslash begins no escape.
abbrev pub IsNoString : (body : List ℕ) → Type 0
IsNoString body =
    (inner rest bytes : List ℕ) × (body ≡ inner ++ rest) × SaysFitted inner bytes × ((rest ≡ []) ⊎ IsNoEscape rest)

-- ---- How long it may be.

-- These characters are the word ps, in any case of its letters, and spaces behind it.
abbrev pub is_ps : List ℕ → Bool
is_ps (p ∷ s ∷ spaces) =
    to_ascii_lowercase p == 0x70 && to_ascii_lowercase s == 0x73 && list_all (λ c. c == 0x20) spaces
is_ps characters = false

-- They end so: a string behind them is a name.
abbrev pub ends_with_ps : List ℕ → Bool
ends_with_ps [] = false
ends_with_ps (c ∷ more) = is_ps (c ∷ more) || ends_with_ps more

-- What there is room for: of a name its first 8 bytes; else what is shown of a text of that many.
abbrev pub IsShortened : (name : Bool) → (bytes shown : List ℕ) → Type 0
IsShortened true bytes shown = shown ≡ take 8 bytes
IsShortened false bytes shown = IsCut bytes shown

-- ---- A line.

-- The characters of a string that says these bytes, with its quotes.
abbrev pub string_of : (bytes : List ℕ) → List ℕ
string_of bytes = 0x22 ∷ (flat_map written bytes ++ 0x22 ∷ [])

-- No quote stands there.
abbrev pub has_no_quote : List ℕ → Bool
has_no_quote text = list_all (λ c. not (c == 0x22)) text

-- No further string stands in the text.
abbrev pub HasNoString : (text : List ℕ) → Type 0
HasNoString text =
    (has_no_quote text ≡ true)
    ⊎ ((outside body : List ℕ) × (text ≡ outside ++ 0x22 ∷ body) × (has_no_quote outside ≡ true) × IsNoString body)

-- A text, in which this stands between its quotes, and what it is with its strings made to fit, each by itself: what
-- stands outside of them stays.
abbrev pub AreRefitted : (strings : List (List ℕ)) → (text fitted : List ℕ) → Type 0
AreRefitted [] text fitted = HasNoString text × (fitted ≡ text)
AreRefitted (inner ∷ strings) text fitted =
    (outside more others bytes shown : List ℕ) × (text ≡ outside ++ (0x22 ∷ (inner ++ 0x22 ∷ more)))
    × (has_no_quote outside ≡ true) × SaysFitted inner bytes × IsShortened (ends_with_ps outside) bytes shown
    × (fitted ≡ outside ++ (string_of shown ++ others)) × AreRefitted strings more others

-- A line, and the same with its strings made to fit, in UTF-8: what of it is no UTF-8 is a character that stands for
-- that (Unicode, U+FFFD).
abbrev pub IsRefitted : (line fitted : List ℕ) → Type 0
IsRefitted line fitted =
    (strings : List (List ℕ)) × (characters : List ℕ) × AreRefitted strings (chars (utf8_lossy line)) characters
    × (fitted ≡ encode_utf8_all characters)
