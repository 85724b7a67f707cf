-- The words of a command line with the options of the file that they name (profile).
use Rattle.std.specs.Prelude.{◌≡◌, ◌≢◌, ◌⊎◌, ℕ, List, [], ◌++◌, codes, Option, None, false}
use Rattle.std.specs.List.{All, Any}
use Rattle.std.specs.String.{string_bytes}
use Rattle.clap.specs.Faults.{fault_of}
use Rattle.clap.specs.Kinds.{IsAmong}
use Rattle.clap.specs.Values.{kind_of}
use Rattle.clap.specs.declared.error.Error.{Error}
use Rattle.clap.specs.declared.error.kind.ErrorKind.TheVariants.{MissingRequiredArgument}
use Rattle.std.specs.Io.KnownBytes.{Appends}
use Rattle.option_files.specs.Words.{Entry, Text, file_in, names, option_words, words_to_try, words_with}
use Rattle.option_files.specs.Entries.{Gives, Refuses}
use Rattle.commands.specs.declared.job.Job.{Job}
use Rattle.command_line.specs.declared.file_fault.FileFault.{FileFault}
use Rattle.command_line.specs.declared.file_fault.FileFault.TheVariants.{Entries, Refused, NotAList, OutOfMemory}
use Rattle.command_line.specs.CommandLine.{Asks, GivesNoList, uecp_app}

-- Nothing is wrong with the words, or an argument is missing that has to be given.
abbrev pub AreTaken : (words : List Text) → Type 0
AreTaken words =
    (fault_of uecp_app words ≡ []) ⊎ IsAmong MissingRequiredArgument (fault_of uecp_app words)

-- The words have the fault of this error, and it is not that an argument is missing.
abbrev pub AreRefused : (words : List Text) → Error → Type 0
AreRefused words error = IsAmong (kind_of error) (fault_of uecp_app words) × (kind_of error ≢ MissingRequiredArgument)

-- The words are those that were given, with the entries of this text, each of which the command takes alone.
pub record Fills (given : List Text) (text : Text) (words : List Text) : Type 0 where
  pub entries : List Entry
  pub gives : Gives text entries
  pub taken : All (λ entry. AreTaken (words_to_try given entry)) entries
  pub joined : words ≡ words_with given entries

-- The words name no file, and ask for none to be looked at.
abbrev pub HasNoFile : (given : List Text) → Type 0
HasNoFile given = (file_in (option_words given) ≡ None) × (names (codes "check-config") given ≡ false)

-- The words that are run are those that were given, which name no file or are refused; or they are those with the
-- entries of a text, and its file is not to be looked at alone.
abbrev pub Settles : (given words : List Text) → Type 0
Settles given words =
    ((words ≡ given) × (HasNoFile given ⊎ ((error : Error) × AreRefused given error)))
    ⊎ ((names (codes "check-config") given ≡ false) × ((text : Text) × Fills given text words))

-- Why an entry is refused alone: its option is refused by this error. Or there was no memory.
abbrev pub RefusesEntry : (given : List Text) → Entry → FileFault → Type 0
RefusesEntry given entry (Entries fault) = ⊥
RefusesEntry given entry (Refused name error) =
    (entry.0 ≡ string_bytes name) × AreRefused (words_to_try given entry) error
RefusesEntry given entry NotAList = ⊥
RefusesEntry given entry OutOfMemory = Unit {0}

-- Why some entries are refused: one of them is. Or there was no memory.
abbrev pub RefusesEntries : (given : List Text) → List Entry → FileFault → Type 0
RefusesEntries given entries (Entries fault) = ⊥
RefusesEntries given entries (Refused name error) =
    Any (λ entry. RefusesEntry given entry (Refused name error)) entries
RefusesEntries given entries NotAList = ⊥
RefusesEntries given entries OutOfMemory = Unit {0}

-- Why a file with this text gives no options: its text gives no entries; one of them is refused alone; or its services
-- are no list. Or there was no memory.
abbrev pub RefusesFile : (given : List Text) → (text : Text) → FileFault → Type 0
RefusesFile given text (Entries fault) = Refuses text fault
RefusesFile given text (Refused name error) =
    (entries : List Entry) × Gives text entries × RefusesEntries given entries (Refused name error)
RefusesFile given text NotAList = (words : List Text) × Fills given text words × GivesNoList words
RefusesFile given text OutOfMemory = Unit {0}

-- What is said of a file that is ok.
abbrev pub ok_line : (path : Text) → Text
ok_line path = path ++ codes ": ok\n"

-- The words ask for something, and it was said that their file is ok.
abbrev pub SaysOk : (path : Text) → (words : List Text) → (held held' : Option (List ℕ)) → Type 0
SaysOk path words held held' = (job : Job) × Asks words job × Appends held held' (ok_line path)
