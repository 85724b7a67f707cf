-- What is told of the messages of a server whose lines come as they like (profile).
use Rattle.std.specs.Prelude.{ℕ, zero, suc, ◌+◌, Bool, true, false, List, [], ◌∷◌, ◌++◌, codes, decimal}
use Rattle.std.specs.Prelude.{if◌then◌else◌}
use Rattle.uecp_elements.specs.declared.code.Code.{Code}
use Rattle.uecp_elements.specs.declared.code.Code.TheVariants.{Applied}
use Rattle.uecp_elements.specs.Codes.{byte_of}
use Rattle.uecp_text.specs.Digits.{byte_word, decimal_word}
use Rattle.uecp_json.specs.Meanings.{meaning_of}

-- that the encoder refused a message with this code, and why
abbrev pub refusal_words : Code → List ℕ
refusal_words code = codes " refused" ++ byte_word (byte_of code) ++ codes " " ++ meaning_of code

-- what the encoder did with a message that it answered with this code
abbrev pub code_words : Code → List ℕ
code_words Applied = codes " applied"
code_words code = refusal_words code

-- the line of the message of this number
abbrev pub reply_line : (number : ℕ) → Code → List ℕ
reply_line number code = decimal number ++ code_words code ++ codes "\n"

-- whether this code says that a message was applied
abbrev pub is_applied : Code → Bool
is_applied Applied = true
is_applied code = false

-- the lines of messages one after another, the first of which has this number
abbrev pub reply_lines : (first : ℕ) → List Code → List ℕ
reply_lines first [] = []
reply_lines first (code ∷ told) = reply_line first code ++ reply_lines (first + 1) told

-- The lines of messages that are held, one after another, the first of which has this number, and which are marked or
-- wait so: of each that waits the line of the next of these codes; of one that is marked, whose reply came before,
-- nothing.
abbrev pub held_lines : (first : ℕ) → (marks : List Bool) → List Code → List ℕ
held_lines first [] told = []
held_lines first (true ∷ marks) told = held_lines (first + 1) marks told
held_lines first (false ∷ marks) [] = []
held_lines first (false ∷ marks) (code ∷ told) = reply_line first code ++ held_lines (first + 1) marks told

-- the line of a message of which can't be known whether it was applied
abbrev pub unknown_line : (number : ℕ) → List ℕ
unknown_line number = decimal number ++ codes " unknown\n"

-- so for that many messages one after another, the first of which has this number
abbrev pub unknown_lines : (first count : ℕ) → List ℕ
unknown_lines first zero = []
unknown_lines first (suc more) = unknown_line first ++ unknown_lines (first + 1) more

-- ---- The station.

-- the line of the message of this number of the station, which the encoder refused with this code
abbrev pub station_line : (number : ℕ) → Code → List ℕ
station_line number code = codes "station" ++ decimal_word number ++ refusal_words code ++ codes "\n"

-- that line, of one that was answered with this code; nothing where it was applied
abbrev pub refused_line : (number : ℕ) → Code → List ℕ
refused_line number Applied = []
refused_line number code = station_line number code

-- so for messages one after another, the first of which has this number
abbrev pub refused_lines : (first : ℕ) → List Code → List ℕ
refused_lines first [] = []
refused_lines first (code ∷ told) = refused_line first code ++ refused_lines (first + 1) told

-- that all messages of the station were applied; nothing where one was not, or it has none
abbrev pub applied_line : (station : List (List ℕ)) → (all : Bool) → List ℕ
applied_line [] all = []
applied_line (message ∷ station) all = if all then codes "station applied\n" else []
