-- What is said of a command line that was refused (profile).
use Rattle.std.specs.Prelude.{◌≡◌, ◌≢◌, ◌⊎◌, ℕ, List, codes}
use Rattle.clap.specs.Faults.{fault_of}
use Rattle.clap.specs.Kinds.{IsAmong}
use Rattle.clap.specs.declared.error.Error.{Error}
use Rattle.clap.specs.declared.error.ErrorKind.TheVariants as kind
use Rattle.clap.specs.Values.{kind_of}
use Rattle.uecp_text.specs.declared.run_fault.RunFault.{RunFault}
use Rattle.uecp_text.specs.Faults.{Fails, error_lines}
use Rattle.command_line.specs.declared.usage.Usage.{Usage}
use Rattle.command_line.specs.declared.usage.Usage.TheVariants.{Refused, NotAList, OutOfMemory}
use Rattle.command_line.specs.CommandLine.{uecp_app}
use Rattle.notices.specs.Told.{Told, Says}

-- The error as it is, but want of memory as that.
abbrev pub SaysError : Error → Usage → Type 0
SaysError error usage =
    ((kind_of error ≡ kind.OutOfMemory) × (usage ≡ OutOfMemory))
    ⊎ ((kind_of error ≢ kind.OutOfMemory) × (usage ≡ Refused error))

-- The words ask for a help text or for the version.
abbrev pub AskForText : (words : List (List ℕ)) → Type 0
AskForText words = IsAmong kind.DisplayHelp (fault_of uecp_app words)
    ⊎ IsAmong kind.DisplayVersion (fault_of uecp_app words)

-- What is said of a list of services that is none.
abbrev pub no_list_line : List ℕ
no_list_line = codes "uecp: services: NotAList\n"

-- It is a question for a text.
abbrev pub AsksForText : Usage → Type 0
AsksForText (Refused error) = (kind_of error ≡ kind.DisplayHelp) ⊎ (kind_of error ≡ kind.DisplayVersion)
AsksForText NotAList = ⊥
AsksForText OutOfMemory = ⊥

-- It is a mistake, and of a list of services that was said.
abbrev pub SaysMistake : Usage → (told told' : Told) → Type 0
SaysMistake (Refused error) told told' = (kind_of error ≢ kind.DisplayHelp) × (kind_of error ≢ kind.DisplayVersion)
SaysMistake NotAList told told' = Says told told' no_list_line
SaysMistake OutOfMemory told told' = ⊥

-- Memory was wanting, or the text that was asked for could not be written, and that was said.
abbrev pub SaysFailure : (told told' : Told) → Type 0
SaysFailure told told' = (fault : RunFault) × Fails fault × Says told told' (error_lines fault)
