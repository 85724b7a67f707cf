-- How the strings of a line are made to fit, part by part (private).
use Rattle.std.specs.Prelude.{◌≡◌, ◌⊎◌, ℕ, true, false, List, [], ◌∷◌, ◌++◌, encode_utf8_all, Option, Some, None}
use Rattle.std.specs.List.{list_all}
use Rattle.unicode_normalization.specs.Forms.{nfc}
use Rattle.titles.specs.Fitting.{AreFitted, Puts}
use Rattle.titles.specs.Strings.{AreRefitted, HasNoString, IsEscape, IsNoEscape, IsShortened, SaysFitted, ends_with_ps}
use Rattle.titles.specs.Strings.{has_no_quote, is_plain, string_of}
use Rattle.titles.specs.declared.strings.Part.{Part}
use Rattle.titles.specs.declared.strings.Part.TheVariants as part

-- What is left does not begin with a character that stands for itself.
abbrev pub IsEndOfPlain : (rest : List ℕ) → Type 0
IsEndOfPlain [] = Unit {0}
IsEndOfPlain (c ∷ rest) = is_plain c ≡ false

-- These characters stand for themselves, and what they are was added.
abbrev pub PutsRun : (run before after : List ℕ) → Type 0
PutsRun run before after = (list_all is_plain run ≡ true) × Puts (AreFitted (nfc run)) before after

-- What comes next in what is left of a string, and what was added of it.
abbrev pub IsPartOf : (left : List ℕ) → Part → (before after : List ℕ) → Type 0
IsPartOf left (part.Closed behind) before after =
    (run : List ℕ) × (left ≡ run ++ 0x22 ∷ behind.now) × PutsRun run before after
IsPartOf left (part.Escaped more) before after =
    (run escape first : List ℕ) × (byte : ℕ) × (left ≡ run ++ (escape ++ more.now)) × (list_all is_plain run ≡ true)
    × AreFitted (nfc run) first × IsEscape escape byte × (after ≡ before ++ (first ++ byte ∷ []))
IsPartOf left part.None before after =
    (run rest : List ℕ) × (left ≡ run ++ rest) × PutsRun run before after × ((rest ≡ []) ⊎ IsNoEscape rest)

-- A string stands behind its first quote, and this behind its last; what it says was added.
abbrev pub PutsString : (body behind before after : List ℕ) → Type 0
PutsString body behind before after =
    (inner : List ℕ) × (body ≡ inner ++ 0x22 ∷ behind) × Puts (SaysFitted inner) before after

-- What of a line was added up to where a string ends, made to fit; or all that is left, in which none stands.
abbrev pub PutsNext : (left : List ℕ) → (behind : Option (List ℕ)) → (before after : List ℕ) → Type 0
PutsNext left (Some behind) before after =
    (outside inner bytes shown : List ℕ) × (left ≡ outside ++ (0x22 ∷ (inner ++ 0x22 ∷ behind)))
    × (has_no_quote outside ≡ true) × SaysFitted inner bytes × IsShortened (ends_with_ps outside) bytes shown
    × (after ≡ before ++ encode_utf8_all (outside ++ string_of shown))
PutsNext left None before after = HasNoString left × (after ≡ before ++ encode_utf8_all left)

-- A text was added with its strings made to fit.
abbrev pub PutsRefitted : (text before after : List ℕ) → Type 0
PutsRefitted text before after =
    (strings : List (List ℕ)) × (characters : List ℕ) × AreRefitted strings text characters
    × (after ≡ before ++ encode_utf8_all characters)
