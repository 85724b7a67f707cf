-- Why runs stop: their exit statuses, and what is said of them on standard error (profile).
use Rattle.std.specs.Prelude.{ℕ, List, [], ◌++◌, codes, decimal, Option, Some, None}
use Rattle.std.specs.Option.{option_map}
use Rattle.std.specs.Char.{encode_utf8}
use Rattle.rds_store.specs.Fault.{name_of}
use Rattle.uecp_text.specs.declared.text_fault.TextFault.{TextFault}
use Rattle.uecp_text.specs.declared.text_fault.TextFault.TheVariants as flaw
use Rattle.uecp_text.specs.declared.run_fault.RunFault.{RunFault}
use Rattle.uecp_text.specs.declared.run_fault.RunFault.TheVariants.{Text, Services, NotAList, Address, TooLong, Reading}
use Rattle.uecp_text.specs.declared.run_fault.RunFault.TheVariants.{Writing, OutOfMemory, Listening, Connection}
use Rattle.uecp_text.specs.declared.run_fault.RunFault.TheVariants.{Outstanding}

-- 1 for a line of input, 2 for what the command line gave, 3 for the rest.
abbrev pub status_of : RunFault → ℕ
status_of (Text number refusal) = 1
status_of (Services refusal) = 2
status_of NotAList = 2
status_of Address = 2
status_of TooLong = 3
status_of Reading = 3
status_of Writing = 3
status_of OutOfMemory = 3
status_of Listening = 3
status_of Connection = 3
status_of Outstanding = 3

-- The character that is at fault, where it is one, between quotes in UTF-8; else something was expected.
abbrev pub named : (character : Option ℕ) → List ℕ
named None = codes "expected "
named (Some character) = codes "'" ++ (encode_utf8 character ++ codes "' ")

-- The question for the nearest word, where one is near.
abbrev pub question : (nearest : Option (List ℕ)) → List ℕ
question None = []
question (Some word) = codes "; did you mean " ++ (word ++ codes "?")

-- What is said of a line that was refused.
abbrev pub refusal_text : TextFault → List ℕ
refusal_text flaw.NotHex = codes "not hex"
refusal_text flaw.NotACommand = codes "not a command"
refusal_text flaw.NoFrame = codes "no frame"
refusal_text flaw.MessageTooLong = codes "message too long"
refusal_text (flaw.Unsaid unsaid) =
    named unsaid.character ++ (unsaid.what.now ++ question (option_map (λ word. word.now) unsaid.nearest))
refusal_text flaw.OutOfMemory = codes "out of memory"

-- Where in the line it stands, if that is known: of a line of phrases its column.
abbrev pub column_text : TextFault → List ℕ
column_text (flaw.Unsaid unsaid) = codes ", column " ++ decimal unsaid.column
column_text fault = []

-- It is the fault of a line that is no line of phrases.
abbrev pub IsPlain : TextFault → Type 0
IsPlain (flaw.Unsaid unsaid) = ⊥
IsPlain fault = Unit {0}

-- What is said of a run that stopped: of a line its number, the column where that is known, and what is wrong with it;
-- of services the name of their fault. Of one that a text ended nothing is said.
abbrev pub fault_text : RunFault → List ℕ
fault_text (Text number refusal) =
    codes "uecp: line " ++ (decimal number ++ (column_text refusal ++ (codes ": " ++ refusal_text refusal)))
fault_text (Services refusal) = codes "uecp: services: " ++ name_of refusal
fault_text NotAList = codes "uecp: services: NotAList"
fault_text Address = codes "uecp: address: NotExact"
fault_text TooLong = codes "uecp: input too long"
fault_text Reading = codes "uecp: reading failed"
fault_text Writing = codes "uecp: writing failed"
fault_text OutOfMemory = codes "uecp: out of memory"
fault_text Listening = codes "uecp: listening failed"
fault_text Connection = codes "uecp: connection failed"
fault_text Outstanding = []

-- The lines of that on standard error: one, or none where nothing is said.
abbrev pub error_lines : RunFault → List ℕ
error_lines Outstanding = []
error_lines fault = fault_text fault ++ codes "\n"

-- The run failed: its input could not be read or is too long, its output could not be written, or memory was wanting.
abbrev pub Fails : RunFault → Type 0
Fails TooLong = Unit {0}
Fails Reading = Unit {0}
Fails Writing = Unit {0}
Fails OutOfMemory = Unit {0}
Fails (Text number refusal) = ⊥
Fails (Services refusal) = ⊥
Fails NotAList = ⊥
Fails Address = ⊥
Fails Listening = ⊥
Fails Connection = ⊥
Fails Outstanding = ⊥
