-- The lines of what an encoder finds and answers, as a device tells them (profile).
use Rattle.std.specs.Prelude.{ℕ, ◌==◌, Bool, List, [], ◌∷◌, ◌++◌, length, codes, flat_map, if◌then◌else◌}
use Rattle.serde_json.specs.Data.{string, boolean}
use Rattle.uecp_elements.specs.declared.code.Code.{Code}
use Rattle.uecp_elements.specs.Codes.{byte_of}
use Rattle.uecp_frame.specs.declared.frame.Frame.{Frame}
use Rattle.uecp_frame.specs.declared.fed.Found.{Found}
use Rattle.uecp_frame.specs.declared.fed.Found.TheVariants as found
use Rattle.uecp_frame.specs.Feeding.{findings_of}
use Rattle.uecp_encoder.specs.declared.listener.Answered.{Answered}
use Rattle.uecp_encoder.specs.declared.listener.Answered.TheVariants.{New, Repeat, NotNext, Unnumbered, NotForMe}
use Rattle.uecp_encoder.specs.declared.listener.Answered.TheVariants.{Dropped}
use Rattle.uecp_encoder.specs.declared.listener.Event.{Event}
use Rattle.uecp_text.specs.Digits.{byte_word, number_word, row_word}
use Rattle.uecp_lines.specs.Lines.{dropped_line}
use Rattle.phrase_scripts.specs.Lines.{message_text}
use Rattle.json_lines.specs.Objects.{Field, in_digits, line_of}
use Rattle.uecp_json.specs.Meanings.{meaning_of}
use Rattle.uecp_json.specs.Steps.{code_fields}
use Rattle.uecp_json.specs.Findings.{finding_line}
use Rattle.output_forms.specs.declared.form.Form.{Form}
use Rattle.output_forms.specs.declared.form.Form.TheVariants.{Lines, Words, Json}

-- ---- As text, one line for each event.

-- The time before a line; nothing where none is told.
abbrev pub time_words : (stamp : List ℕ) → List ℕ
time_words stamp = if length stamp == 0 then [] else stamp ++ codes " "

-- A code, and of one that is not 00 what it means.
abbrev pub meaning_words : Code → List ℕ
meaning_words code =
    byte_word (byte_of code)
    ++ (if byte_of code == 0 then [] else codes " (" ++ (meaning_of code ++ codes ")"))

-- What became of a frame, with the code of the reply, if there is one.
abbrev pub answer_words : Answered → List ℕ
answer_words (New code reply) = codes " new" ++ meaning_words code
answer_words (Repeat code reply) = codes " repeat" ++ meaning_words code
answer_words NotNext = codes " not next"
answer_words Unnumbered = codes " unnumbered"
answer_words NotForMe = codes " not for me"
answer_words (Dropped fault) = []

-- That its reply could not be written whole.
abbrev pub sent_words : (sent : Bool) → List ℕ
sent_words sent = if sent then [] else codes " not sent"

-- A message: its bytes, or its phrases.
abbrev pub message_words : Form → (message : List ℕ) → List ℕ
message_words Lines message = row_word message
message_words (Words region) message = if length message == 0 then [] else codes " " ++ message_text region message
message_words Json message = []

-- A frame by its address and counter.
abbrev pub head_words : Frame → List ℕ
head_words f = codes "frame" ++ number_word f.address ++ byte_word f.counter

-- A frame, what became of it, and its message.
abbrev pub frame_words : Form → Frame → Answered → (sent : Bool) → List ℕ
frame_words form f answer sent =
    head_words f ++ (answer_words answer ++ sent_words sent) ++ message_words form f.message ++ codes "\n"

-- The line of an event: a frame, or a segment that is none.
abbrev pub text_line : Form → (stamp : List ℕ) → Found → Answered → (sent : Bool) → List ℕ
text_line form stamp found.Nothing answer sent = []
text_line form stamp (found.Frame f) answer sent = time_words stamp ++ frame_words form f answer sent
text_line form stamp (found.Refused fault) answer sent = time_words stamp ++ dropped_line fault

-- ---- In JSON, two objects for each event: what was found, as `show` and `watch` write it, and what became of it.

-- The time; nothing where none is told.
abbrev pub time_fields : (stamp : List ℕ) → List Field
time_fields stamp = if length stamp == 0 then [] else (codes "time", string stamp) ∷ []

-- The name of an answer.
abbrev pub answer_name : Answered → List ℕ
answer_name (New code reply) = codes "new"
answer_name (Repeat code reply) = codes "repeat"
answer_name NotNext = codes "not_next"
answer_name Unnumbered = codes "unnumbered"
answer_name NotForMe = codes "not_for_me"
answer_name (Dropped fault) = codes "dropped"

-- The bytes of a reply, and whether they were written whole.
abbrev pub sent_fields : (reply : List ℕ) → (sent : Bool) → List Field
sent_fields reply sent = (codes "reply", in_digits reply) ∷ (codes "sent", boolean sent) ∷ []

-- What is told of a reply, if there is one: its code, and what was written.
abbrev pub reply_fields : Answered → (sent : Bool) → List Field
reply_fields (New code reply) sent = code_fields code ++ sent_fields reply.items sent
reply_fields (Repeat code reply) sent = code_fields code ++ sent_fields reply.items sent
reply_fields NotNext sent = []
reply_fields Unnumbered sent = []
reply_fields NotForMe sent = []
reply_fields (Dropped fault) sent = []

-- An answer: its name, and its reply.
abbrev pub answer_fields : Answered → (sent : Bool) → List Field
answer_fields answer sent = (codes "answer", string (answer_name answer)) ∷ reply_fields answer sent

-- The object of what became of something that was found.
abbrev pub answered_line : (stamp : List ℕ) → Answered → (sent : Bool) → List ℕ
answered_line stamp answer sent = line_of (codes "answered") (time_fields stamp ++ answer_fields answer sent)

-- ---- In each form.

-- The lines of an event, behind this time; none is told where that is empty.
abbrev pub event_lines : Form → (stamp : List ℕ) → Event → (sent : Bool) → List ℕ
event_lines Lines stamp event sent = text_line Lines stamp event.found event.answer sent
event_lines (Words region) stamp event sent = text_line (Words region) stamp event.found event.answer sent
event_lines Json stamp event sent =
    flat_map finding_line (findings_of event.found) ++ answered_line stamp event.answer sent
