-- How the lines of the command `send` are titles (profile).
use Rattle.std.specs.Prelude.{◌≡◌, ◌≢◌, ◌⊎◌, ℕ, ◌≤◌, true, false, is_some, List, [], ◌∷◌, length, codes, chars}
use Rattle.std.specs.Prelude.{Option, Some, None, Ok}
use Rattle.hex.specs.Hex.{decode_sized}
use Rattle.clap.specs.Walk.{Row, one_of, first_of}
use Rattle.clap.specs.Values.{kind_of}
use Rattle.clap.specs.declared.error.kind.ErrorKind.TheVariants.{InvalidValue}
use Rattle.titles.specs.Titles.{Stands}
use Rattle.commands.specs.declared.send_options.TitleOptions.{TitleOptions}
use Rattle.command_line.specs.declared.usage.Usage.{Usage}
use Rattle.command_line.specs.declared.usage.Usage.TheVariants.{Refused, NotAList, OutOfMemory}
use Rattle.command_line.specs.OptionTexts.{IsFlag, word_text}

-- What the lines are.
abbrev pub input_text : List Row → List ℕ
input_text rows = word_text (codes "input") (codes "phrases") rows

-- What stands before each title: nothing, where that is left out; else the text in bytes of the set, 32 at most.
abbrev pub IsPrefix : (text : Option (List ℕ)) → (bytes : List ℕ) → Type 0
IsPrefix None bytes = bytes ≡ []
IsPrefix (Some text) bytes = Stands [] (chars text) bytes × (length bytes ≤ 32)

-- Whose RadioText a title is: the main service's, where that is left out; else the number of two hexadecimal digits.
abbrev pub IsService : (text : Option (List ℕ)) → (number : ℕ) → Type 0
IsService None number = number ≡ 0
IsService (Some text) number = decode_sized text 1 ≡ Ok (number ∷ [])

-- The lines are phrases, and nothing is asked for that is a title's; or they are titles, as the matches of the command
-- have it.
abbrev pub IsTitles : (rows : List Row) → Option TitleOptions → Type 0
IsTitles rows None =
    (input_text rows ≡ codes "phrases") × (first_of (codes "prefix") rows ≡ None)
    × (first_of (codes "service") rows ≡ None)
IsTitles rows (Some options) =
    (input_text rows ≡ codes "titles") × IsPrefix (first_of (codes "prefix") rows) options.prefix.items
    × IsService (first_of (codes "service") rows) options.service

-- The lines are neither; what is a title's is asked for of phrases; or the prefix of titles is none, or the service no
-- number.
abbrev pub HasNoTitles : (rows : List Row) → Type 0
HasNoTitles rows =
    ((input_text rows ≢ codes "phrases") × (input_text rows ≢ codes "titles"))
    ⊎ (((input_text rows ≡ codes "phrases")
    × ((is_some (first_of (codes "prefix") rows) ≡ true) ⊎ (is_some (first_of (codes "service") rows) ≡ true)))
    ⊎ ((input_text rows ≡ codes "titles")
    × (((bytes : List ℕ) → IsPrefix (first_of (codes "prefix") rows) bytes → ⊥)
    ⊎ ((number : ℕ) → IsService (first_of (codes "service") rows) number → ⊥))))

-- It is clap's error that a value is none, or want of memory.
abbrev pub IsRefusal : Usage → Type 0
IsRefusal (Refused error) = kind_of error ≡ InvalidValue
IsRefusal NotAList = ⊥
IsRefusal OutOfMemory = Unit {0}

-- Why what the matches of the command `send` ask for was refused: its lines are no titles, and no phrases. Or there was
-- no memory.
abbrev pub RefusesTitles : (rows : List Row) → Usage → Type 0
RefusesTitles rows why = (why ≡ OutOfMemory) ⊎ (IsRefusal why × HasNoTitles rows)

-- ---- Lines that are passed over.

-- The file that is named for them, if one is; and then the run does not end at a line that is refused.
abbrev pub IsPassOver : (rows : List Row) → (file : Option (List ℕ)) → Type 0
IsPassOver rows file = (file ≡ first_of (codes "pass-over") rows)
    × (is_some (first_of (codes "pass-over") rows) ≡ true → IsFlag (one_of (codes "strict") rows) false)

-- A file is named for them, and the run is to end at a line that is refused.
abbrev pub PassesOverNone : (rows : List Row) → Type 0
PassesOverNone rows =
    (is_some (first_of (codes "pass-over") rows) ≡ true) × IsFlag (one_of (codes "strict") rows) true

-- So it was refused; or there was no memory.
abbrev pub RefusesPassOver : (rows : List Row) → Usage → Type 0
RefusesPassOver rows why = (why ≡ OutOfMemory) ⊎ (IsRefusal why × PassesOverNone rows)

-- Why what the matches of the command `send` ask for was refused: its lines are no titles, and no phrases; or they
-- would be passed over, and end the run. Or there was no memory.
abbrev pub RefusesLines : (rows : List Row) → Usage → Type 0
RefusesLines rows why = (why ≡ OutOfMemory) ⊎ (IsRefusal why × (HasNoTitles rows ⊎ PassesOverNone rows))
