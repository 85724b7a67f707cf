-- What a line gives as a title (profile).
use Rattle.std.specs.Prelude.{◌≡◌, ◌≢◌, ◌⊎◌, ℕ, ◌≤◌, true, false, List, [], ◌++◌, length, map, Some, chars, IsUtf8}
use Rattle.std.specs.Prelude.{encode_utf8_all}
use Rattle.std.specs.Str.{trim}
use Rattle.std.specs.Str.Lossy.{utf8_lossy}
use Rattle.std.specs.String.{string_bytes}
use Rattle.unicode_normalization.specs.Forms.{nfc}
use Rattle.rds_text.specs.BasicSet.{character_of}
use Rattle.uecp_elements.specs.Grammar.{Rt, Text, spelling}
use Rattle.titles.specs.Fitting.{AreFitted}
use Rattle.titles.specs.Cut.{IsCut}
use Rattle.titles.specs.Strings.{string_of}
use Rattle.titles.specs.declared.title.Titles.{Titles as Options}
use Rattle.titles.specs.declared.title.Title.{Title}
use Rattle.titles.specs.declared.title.Title.TheVariants as gives

-- The message that sets a RadioText of the current data set, its A/B flag turned.
abbrev pub radio_text : (service : ℕ) → (text : List ℕ) → List ℕ
radio_text service text = spelling (Rt 0 service (Text 1 text))

-- A text as a string of a phrase, in UTF-8.
abbrev pub shown : (text : List ℕ) → List ℕ
shown text = encode_utf8_all (string_of text)

-- The characters of the title that a line has: the line without the white space at its start and at its end, what is
-- no UTF-8 being a character that stands for that (Unicode, U+FFFD).
abbrev pub title_in : (line : List ℕ) → List ℕ
title_in line = chars (trim (utf8_lossy line))

-- The text is these characters as they stand, behind the prefix: a byte for each, 64 bytes at most.
abbrev pub Stands : (prefix characters text : List ℕ) → Type 0
Stands prefix characters text =
    (bytes : List ℕ) × (map character_of bytes ≡ map Some characters) × (text ≡ prefix ++ bytes) × (length text ≤ 64)

-- No text is.
abbrev pub NoneStands : (prefix characters : List ℕ) → Type 0
NoneStands prefix characters = (text : List ℕ) → Stands prefix characters text → ⊥

-- The text is what these characters are, made to fit, behind the prefix, and as much of it as there is room for.
abbrev pub IsMadeToFit : (prefix characters text : List ℕ) → Type 0
IsMadeToFit prefix characters text =
    (bytes : List ℕ) × AreFitted (nfc characters) bytes × (bytes ≢ []) × IsCut (prefix ++ bytes) text

-- What these characters give: nothing, where there is none; the message of their text as it stands; or where none
-- stands, and it is asked for, that of the text that was made to fit, if anything is left then.
abbrev pub IsTitleOf : Options → (characters : List ℕ) → Title → Type 0
IsTitleOf titles characters gives.Nothing =
    (characters ≡ []) ⊎ ((titles.fit ≡ true) × NoneStands titles.prefix.now characters × AreFitted (nfc characters) [])
IsTitleOf titles characters (gives.Stands message) =
    (characters ≢ [])
    × ((text : List ℕ) × Stands titles.prefix.now characters text × (message ≡ radio_text titles.service text))
IsTitleOf titles characters (gives.Fits message text_shown) =
    (titles.fit ≡ true) × NoneStands titles.prefix.now characters
    × ((text : List ℕ) × IsMadeToFit titles.prefix.now characters text × (message ≡ radio_text titles.service text)
    × (string_bytes text_shown ≡ shown text))

-- They give nothing, for they are none that stand, and are not to be made to fit.
abbrev pub RefusesText : Options → (characters : List ℕ) → Type 0
RefusesText titles characters = (titles.fit ≡ false) × (characters ≢ []) × NoneStands titles.prefix.now characters

-- What a line gives: it is UTF-8, unless it is made to fit, and its title gives it.
abbrev pub GivesTitle : Options → (line : List ℕ) → Title → Type 0
GivesTitle titles line title =
    (IsUtf8 line ⊎ (titles.fit ≡ true)) × IsTitleOf titles (title_in line) title

-- It is refused: it is no UTF-8, or its title does not stand, and it is not to be made to fit.
abbrev pub IsRefused : Options → (line : List ℕ) → Type 0
IsRefused titles line =
    ((titles.fit ≡ false) × (IsUtf8 line → ⊥)) ⊎ RefusesText titles (title_in line)
