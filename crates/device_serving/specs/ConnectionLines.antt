-- The lines of connections, as a device tells them (profile).
use Rattle.std.specs.Prelude.{ℕ, ◌+◌, List, [], ◌∷◌, ◌++◌, codes, Ok, Err}
use Rattle.serde_json.specs.Data.{string}
use Rattle.uecp_encoder.specs.declared.serving.ServeFault.TheVariants.{ReadFailed, WriteFailed, TurnsSpent}
use Rattle.uecp_encoder.specs.declared.serving.KeptFault.TheVariants.{Serve, StateFailed}
use Rattle.uecp_encoder.specs.ServingWith.{Ended}
use Rattle.uecp_text.specs.Digits.{decimal_word}
use Rattle.json_lines.specs.Objects.{Field, in_decimal, line_of}
use Rattle.uecp_jobs.specs.EncoderRun.{ending_words}
use Rattle.output_forms.specs.declared.form.Form.{Form}
use Rattle.output_forms.specs.declared.form.Form.TheVariants.{Lines, Words, Json}
use Rattle.device_serving.specs.EventLines.{time_words, time_fields}

-- The time, and the number of a connection.
abbrev pub number_fields : (stamp : List ℕ) → (number : ℕ) → List Field
number_fields stamp number = time_fields stamp ++ (codes "number", in_decimal number) ∷ []

-- ---- A connection was opened.

abbrev pub opened_text : (stamp : List ℕ) → (number : ℕ) → List ℕ
opened_text stamp number = time_words stamp ++ codes "connection" ++ decimal_word number ++ codes "\n"

abbrev pub opened_object : (stamp : List ℕ) → (number : ℕ) → List ℕ
opened_object stamp number = line_of (codes "connection") (number_fields stamp number)

-- The line of a connection that was opened, by its number, behind this time.
abbrev pub opened_lines : Form → (stamp : List ℕ) → (number : ℕ) → List ℕ
opened_lines Lines stamp number = opened_text stamp number
opened_lines (Words region) stamp number = opened_text stamp number
opened_lines Json stamp number = opened_object stamp number

-- ---- A connection ended.

-- How it ended, in words: as without a state; or a save failed.
abbrev pub ended_words : Ended → List ℕ
ended_words (Ok served) = ending_words (Ok served)
ended_words (Err (Serve fault)) = ending_words (Err fault)
ended_words (Err StateFailed) = codes " state failed"

-- The line that `encoder` writes without a log, behind this time.
abbrev pub ended_text : (stamp : List ℕ) → (number : ℕ) → Ended → List ℕ
ended_text stamp number ended =
    time_words stamp ++ codes "connection" ++ decimal_word number ++ ended_words ended ++ codes "\n"

-- How it ended: the peer closed it after so many replies; a read failed; a write failed after so many bytes; the turns
-- were spent; or a save failed.
abbrev pub ended_fields : Ended → List Field
ended_fields (Ok served) = (codes "end", string (codes "closed")) ∷ (codes "replies", in_decimal served.replies) ∷ []
ended_fields (Err (Serve ReadFailed)) = (codes "end", string (codes "read_failed")) ∷ []
ended_fields (Err (Serve (WriteFailed w))) =
    (codes "end", string (codes "write_failed")) ∷ (codes "written", in_decimal w) ∷ []
ended_fields (Err (Serve TurnsSpent)) = (codes "end", string (codes "turns_spent")) ∷ []
ended_fields (Err StateFailed) = (codes "end", string (codes "state_failed")) ∷ []

abbrev pub ended_object : (stamp : List ℕ) → (number : ℕ) → Ended → List ℕ
ended_object stamp number ended =
    line_of (codes "connection_end") (number_fields stamp number ++ ended_fields ended)

-- The line of a connection that ended, by its number, behind this time.
abbrev pub ended_lines : Form → (stamp : List ℕ) → (number : ℕ) → Ended → List ℕ
ended_lines Lines stamp number ended = ended_text stamp number ended
ended_lines (Words region) stamp number ended = ended_text stamp number ended
ended_lines Json stamp number ended = ended_object stamp number ended

-- The lines of connections that ended so, one after another, the first of which has this number; no time is told.
abbrev pub endings_lines : Form → ℕ → List Ended → List ℕ
endings_lines form number [] = []
endings_lines form number (ended ∷ rest) = ended_lines form [] number ended ++ endings_lines form (number + 1) rest
