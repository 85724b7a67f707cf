-- The name that the words of a command line give to their line (profile).
use Rattle.std.specs.Prelude.{◌≡◌, ◌⊎◌, ◌==◌, ◌&&◌, ℕ, Bool, true, false, not, nat_le, List, [], length, codes}
use Rattle.std.specs.Prelude.{Option, Some, None}
use Rattle.std.specs.List.{list_all}
use Rattle.clap.specs.Faults.{fault_of}
use Rattle.clap.specs.Kinds.{HasKind}
use Rattle.clap.specs.Simple.{subcommand_of}
use Rattle.clap.specs.Values.{kind_of}
use Rattle.clap.specs.Walk.{Row, first_of, one_of}
use Rattle.clap.specs.declared.error.Error.{Error}
use Rattle.clap.specs.declared.error.kind.ErrorKind.TheVariants.{InvalidValue}
use Rattle.json_lines.specs.Stamps.{is_plain}
use Rattle.option_files.specs.Words.{names}
use Rattle.command_line.specs.CommandLine.{IsFlag, uecp_app}
use Rattle.command_line.specs.declared.usage.Usage.{Usage}
use Rattle.command_line.specs.declared.usage.Usage.TheVariants.{Refused, OutOfMemory}

-- A text is the name of a line: 1 to 64 printable characters of ASCII, each of which stands for itself in JSON.
abbrev pub is_name : (text : List ℕ) → Bool
is_name text = not (length text == 0) && nat_le (length text) 64 && list_all is_plain text

-- What the matches of a command name their line: the text of the option `name`, where objects are asked for.
abbrev pub IsNameIn : (rows : List Row) → (name : Option (List ℕ)) → Type 0
IsNameIn rows None = (first_of (codes "name") rows ≡ None) ⊎ IsFlag (one_of (codes "json") rows) false
IsNameIn rows (Some name) = (first_of (codes "name") rows ≡ Some name) × (is_name name ≡ true)
    × IsFlag (one_of (codes "json") rows) true

-- Why what the matches of a command name their line was refused: it is no name. Or there was no memory.
abbrev pub RefusesNameIn : (rows : List Row) → Usage → Type 0
RefusesNameIn rows why = (why ≡ OutOfMemory)
    ⊎ ((error : Error) × (why ≡ Refused error) × (kind_of error ≡ InvalidValue)
    × (name : List ℕ) × (first_of (codes "name") rows ≡ Some name) × (is_name name ≡ false))

-- The words give this name to their line: they have no fault, and it is that of the command that they name. They give
-- none where they do not name the option, or where they have a fault, or their command's matches give none.
abbrev pub GivesName : (words : List (List ℕ)) → (name : Option (List ℕ)) → Type 0
GivesName words name = ((name ≡ None) × (names (codes "name") words ≡ false))
    ⊎ (((name ≡ None) × (error : Error) × HasKind (fault_of uecp_app words) error)
    ⊎ ((fault_of uecp_app words ≡ []) × (command : List ℕ) × (rows : List Row)
    × (subcommand_of uecp_app words ≡ Some (command, rows)) × IsNameIn rows name))

-- Why the words give no name: that of the command that they name is none. Or there was no memory.
abbrev pub RefusesName : (words : List (List ℕ)) → Usage → Type 0
RefusesName words why = (why ≡ OutOfMemory)
    ⊎ ((fault_of uecp_app words ≡ []) × (command : List ℕ) × (rows : List Row)
    × (subcommand_of uecp_app words ≡ Some (command, rows)) × RefusesNameIn rows why)
