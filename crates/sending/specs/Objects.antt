-- What a server tells whose lines come as they like, as objects of JSON, one a line (profile).
use Rattle.std.specs.Prelude.{ℕ, zero, suc, ◌+◌, Bool, true, false, List, [], ◌∷◌, ◌++◌, codes}
use Rattle.serde_json.specs.Data.{string}
use Rattle.uecp_elements.specs.declared.code.Code.{Code}
use Rattle.uecp_elements.specs.declared.code.Code.TheVariants.{Applied}
use Rattle.json_lines.specs.Objects.{Field, in_decimal, line_of}
use Rattle.uecp_json.specs.Findings.{message_fields}
use Rattle.uecp_json.specs.Steps.{code_fields}

-- ---- The answers.

-- A message: its number, when its answer is told, and the sequence counter that it was sent under.
abbrev pub number_fields : (stamp : List ℕ) → (number counter : ℕ) → List Field
number_fields stamp number counter =
    (codes "number", in_decimal number) ∷ (codes "time", string stamp) ∷ (codes "counter", in_decimal counter) ∷ []

-- What its batch cost: how many tries the last connection took, and how many milliseconds went by.
abbrev pub cost_fields : (tries milliseconds : ℕ) → List Field
cost_fields tries milliseconds =
    (codes "tries", in_decimal tries) ∷ (codes "milliseconds", in_decimal milliseconds) ∷ []

-- The line of a message, with the counter that it was sent under, that was answered with this code: last what it says.
abbrev pub answer_line : (stamp : List ℕ) → (tries milliseconds number : ℕ) → (sent : ℕ × List ℕ) → Code → List ℕ
answer_line stamp tries milliseconds number sent code = line_of (codes "answer")
    (number_fields stamp number sent.0
    ++ (code_fields code ++ (cost_fields tries milliseconds ++ message_fields sent.1)))

-- The lines of these messages one after another, the first of which has this number, each with the counter that it was
-- sent under: they were answered with these codes.
abbrev pub answer_lines : (stamp : List ℕ) → (tries milliseconds first : ℕ) → (sent : List (ℕ × List ℕ)) → List Code
    → List ℕ
answer_lines stamp tries milliseconds first sent [] = []
answer_lines stamp tries milliseconds first [] (code ∷ told) = []
answer_lines stamp tries milliseconds first (one ∷ sent) (code ∷ told) =
    answer_line stamp tries milliseconds first one code
    ++ answer_lines stamp tries milliseconds (first + 1) sent told

-- The lines of messages that are held, one after another, the first of which has this number, and which are marked or
-- wait so: of each that waits the line of the next of these, with its counter, and of these codes; of one that is
-- marked, whose reply came before, nothing.
abbrev pub held_lines : (stamp : List ℕ) → (tries milliseconds first : ℕ) → (marks : List Bool)
    → (sent : List (ℕ × List ℕ)) → List Code → List ℕ
held_lines stamp tries milliseconds first [] sent told = []
held_lines stamp tries milliseconds first (true ∷ marks) sent told =
    held_lines stamp tries milliseconds (first + 1) marks sent told
held_lines stamp tries milliseconds first (false ∷ marks) [] told = []
held_lines stamp tries milliseconds first (false ∷ marks) (one ∷ sent) [] = []
held_lines stamp tries milliseconds first (false ∷ marks) (one ∷ sent) (code ∷ told) =
    answer_line stamp tries milliseconds first one code
    ++ held_lines stamp tries milliseconds (first + 1) marks sent told

-- The line of a message of which can't be known whether it was applied.
abbrev pub unknown_line : (number : ℕ) → List ℕ
unknown_line number = line_of (codes "unknown") ((codes "number", in_decimal number) ∷ [])

-- So for that many messages one after another, the first of which has this number.
abbrev pub unknown_lines : (first count : ℕ) → List ℕ
unknown_lines first zero = []
unknown_lines first (suc more) = unknown_line first ++ unknown_lines (first + 1) more

-- ---- The beginning, and the station.

-- How many messages were taken since the state was made, and how many of them wait.
abbrev pub progress_fields : (taken outstanding : ℕ) → List Field
progress_fields taken outstanding =
    (codes "taken", in_decimal taken) ∷ (codes "outstanding", in_decimal outstanding) ∷ []

-- The line of how many messages were taken and how many wait.
abbrev pub progress_line : (taken outstanding : ℕ) → List ℕ
progress_line taken outstanding = line_of (codes "progress") (progress_fields taken outstanding)

-- The line of an encoder that was joined, or could not be.
abbrev pub joined_line : (joined : Bool) → List ℕ
joined_line true = line_of (codes "joined") []
joined_line false = line_of (codes "not_joined") []

-- The number of a message, and the code that it was answered with.
abbrev pub refusal_fields : (number : ℕ) → Code → List Field
refusal_fields number code = (codes "number", in_decimal number) ∷ code_fields code

-- The line of the message of this number of the station, which the encoder refused with this code.
abbrev pub station_line : (number : ℕ) → Code → List ℕ
station_line number code = line_of (codes "station_refused") (refusal_fields number code)

-- That line, of one that was answered with this code; nothing where it was applied.
abbrev pub refused_line : (number : ℕ) → Code → List ℕ
refused_line number Applied = []
refused_line number code = station_line number code

-- So for messages one after another, the first of which has this number.
abbrev pub refused_lines : (first : ℕ) → List Code → List ℕ
refused_lines first [] = []
refused_lines first (code ∷ told) = refused_line first code ++ refused_lines (first + 1) told

-- The line of a station whose messages were all applied.
abbrev pub station_applied_line : List ℕ
station_applied_line = line_of (codes "station_applied") []
