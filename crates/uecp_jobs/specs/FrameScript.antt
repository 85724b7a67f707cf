-- What the lines of a frame script do (profile).
use Rattle.std.specs.Prelude.{◌≡◌, ◌⊎◌, ℕ, ◌+◌, ◌<◌, ◌≤◌, List, [], ◌++◌, length, codes, Option, Some, None}
use Rattle.hex.specs.Hex.{encode_upper}
use Rattle.uecp_frame.specs.declared.frame.Frame.{Frame}
use Rattle.uecp_frame.specs.Frame.{spelling as frame_spelling}
use Rattle.uecp_text.specs.declared.text_fault.TextFault.{TextFault}
use Rattle.uecp_text.specs.declared.text_fault.TextFault.TheVariants.{NotACommand, NoFrame, MessageTooLong}
use Rattle.uecp_text.specs.Run.{Meaning, Brings, Ends, Refuses}
use Rattle.uecp_text.specs.Words.{words as words_in}
use Rattle.uecp_words.specs.ScriptWords.{Line, Begins, Extends, Says, SaysNothing}

-- The line that a frame is written as, where one was begun: its spelling in upper-case digits.
abbrev pub spelled_line : Option Frame → List ℕ
spelled_line None = []
spelled_line (Some f) = encode_upper (frame_spelling f) ++ codes "\n"

-- The frame with more bytes at the end of its message.
abbrev pub extended : Frame → (bytes : List ℕ) → Frame
extended f bytes = record { address = f.address; counter = f.counter; message = f.message ++ bytes }

-- What a line does to the frame that was begun, if any, with the lines that it writes: a new frame has no message yet,
-- and the one before it is written; a message has at most 255 bytes.
abbrev pub Does : (before : Option Frame) → Line → (lines : List ℕ) → (after : Option Frame) → Type 0
Does before (Begins address counter) lines after =
    (lines ≡ spelled_line before) × (after ≡ Some (record { address = address; counter = counter; message = [] }))
Does before (Extends bytes) lines after = (f : Frame) × (before ≡ Some f) × (length f.message + length bytes ≤ 255)
    × (lines ≡ []) × (after ≡ Some (extended f bytes))

-- Why a line that says so is refused: there is no frame to add to, or the message would have more than 255 bytes.
abbrev pub IsUndone : (before : Option Frame) → Line → TextFault → Type 0
IsUndone before (Begins address counter) why = ⊥
IsUndone None (Extends bytes) why = why ≡ NoFrame
IsUndone (Some f) (Extends bytes) why = (why ≡ MessageTooLong) × (255 < length f.message + length bytes)

-- What a line of the script makes of the frame that was begun, if any: the lines that it writes, or why it is refused.
-- A refused line says nothing, or what cannot be done; it changes nothing.
abbrev pub Makes : Meaning (Option Frame)
Makes before text (Brings lines) after = (line : Line) × Says (words_in text) line × Does before line lines after
Makes before text (Ends lines) after = ⊥
Makes before text (Refuses why) after =
    (after ≡ before) × (((why ≡ NotACommand) × SaysNothing (words_in text))
    ⊎ ((line : Line) × Says (words_in text) line × IsUndone before line why))
