-- What the lines of a phrase script say, and how frames are written as such lines (profile).
use Rattle.std.specs.Prelude.{◌≡◌, ℕ, ◌==◌, ◌≤◌, List, [], ◌∷◌, ◌++◌, length, chars, codes, encode_utf8_all, IsUtf8}
use Rattle.std.specs.Prelude.{if◌then◌else◌, Ok, Err}
use Rattle.uecp_frame.specs.declared.frame.Frame.{Frame}
use Rattle.uecp_frame.specs.Findings.{Finding}
use Rattle.rds_text.specs.declared.programme_type.Region.{Region}
use Rattle.phrase_tokens.specs.Tokens.{Token, Word, Lays, written_tokens}
use Rattle.uecp_phrases.specs.Lines.{Say}
use Rattle.uecp_phrases.specs.Written.{line_of as phrases_of}
use Rattle.uecp_text.specs.Words.{IsByte, IsNumber}
use Rattle.uecp_text.specs.Digits.{byte_word, number_word}
use Rattle.uecp_text.specs.declared.text_fault.TextFault.{TextFault}
use Rattle.uecp_text.specs.declared.text_fault.TextFault.TheVariants.{Unsaid}
use Rattle.uecp_lines.specs.Lines.{dropped_line}
use Rattle.phrase_scripts.specs.declared.script_line.PhraseLine.{PhraseLine}
use Rattle.phrase_scripts.specs.declared.script_line.PhraseLine.TheVariants as held

-- ---- Read.

-- What a line says: the address and the counter of the next message, or a message.
pub data Line : Type 0 where
  Begins : (address counter : ℕ) → Line
  Says : (message : List ℕ) → Line

-- What a line that was read says.
abbrev pub line_of : PhraseLine → Line
line_of (held.Frame address counter) = Begins address counter
line_of (held.Message message) = Says message

-- The tokens are `frame`, an address and a counter.
abbrev pub AreFrame : List Token → (address counter : ℕ) → Type 0
AreFrame tokens address counter =
    (a c : List ℕ) × (tokens ≡ Word (codes "frame") ∷ Word a ∷ Word c ∷ []) × IsNumber a address × IsByte c counter

-- The tokens tell so: an address and a counter, or a message of at most 255 bytes in phrases.
abbrev pub Tell : Region → List Token → Line → Type 0
Tell region tokens (Begins address counter) = AreFrame tokens address counter
Tell region tokens (Says message) = Say region tokens message × (length message ≤ 255)

-- The text says so: it is UTF-8, and its tokens tell it.
abbrev pub SaysLine : Region → (text : List ℕ) → Line → Type 0
SaysLine region text line = IsUtf8 text × ((tokens : List Token) × Lays tokens (chars text) × Tell region tokens line)

-- The text says nothing.
abbrev pub SaysNothing : Region → (text : List ℕ) → Type 0
SaysNothing region text = (line : Line) → SaysLine region text line → ⊥

-- It is the fault of a line that says nothing.
abbrev pub IsUnsaid : TextFault → Type 0
IsUnsaid (Unsaid unsaid) = Unit {0}
IsUnsaid fault = ⊥

-- ---- Written.

-- The text of a message, in UTF-8.
abbrev pub message_text : Region → (message : List ℕ) → List ℕ
message_text region message = encode_utf8_all (written_tokens (phrases_of region message))

-- The line of a message, and none of an empty one.
abbrev pub message_line : Region → (message : List ℕ) → List ℕ
message_line region message = if length message == 0 then [] else message_text region message ++ codes "\n"

-- The line of a frame's address and counter.
abbrev pub heading_line : Frame → List ℕ
heading_line f = codes "frame" ++ (number_word f.address ++ (byte_word f.counter ++ codes "\n"))

-- The lines of a frame: its address and counter, and its message.
abbrev pub frame_lines : Region → Frame → List ℕ
frame_lines region f = heading_line f ++ message_line region f.message

-- The lines of a finding: a frame, or a segment that is none, which is no line of a script and stands behind `#`.
abbrev pub finding_lines : Region → Finding → List ℕ
finding_lines region (Ok f) = frame_lines region f
finding_lines region (Err fault) = codes "# " ++ dropped_line fault
