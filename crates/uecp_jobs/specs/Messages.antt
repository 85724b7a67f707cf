-- What the lines of an input say to a server: one message each (profile).
use lib.Pointwise.{pointwise}
use Rattle.std.specs.Prelude.{ℕ, nat_le, ◌==◌, List, [], ◌∷◌, length, codes, Option, Some, None, Result, Ok, Err}
use Rattle.std.specs.Prelude.{if◌then◌else◌}
use Rattle.uecp_text.specs.declared.text_fault.TextFault.{TextFault}
use Rattle.uecp_text.specs.declared.text_fault.TextFault.TheVariants.{NotHex, MessageTooLong}
use Rattle.uecp_text.specs.declared.run_fault.RunFault.{RunFault}
use Rattle.uecp_text.specs.declared.run_fault.RunFault.TheVariants.{Text}
use Rattle.uecp_text.specs.Words.{bytes_in}

-- The message of these bytes, if they are bytes: 255 of them at most.
abbrev pub message_of : {E : Type 0} → Result (List ℕ) E → Result (List ℕ) TextFault
message_of (Ok bytes) = if nat_le (length bytes) 255 then Ok bytes else Err MessageTooLong
message_of (Err fault) = Err NotHex

-- The message that a text spells, or why it spells none: a hyphen spells the empty one, hexadecimal digits with the
-- spaces taken out any other.
abbrev pub spelled : List ℕ → Result (List ℕ) TextFault
spelled text = if pointwise (λ a b. a == b) text (codes "-") then Ok [] else message_of (bytes_in text)

-- a message before those of the texts after it; none of these where a text is refused
abbrev pub before : Result (List ℕ) TextFault → List (List ℕ) → List (List ℕ)
before (Ok message) later = message ∷ later
before (Err fault) later = []

-- The messages of these texts, in order: of all, or of those before the first that is refused.
abbrev pub messages_first : List (ℕ × List ℕ) → List (List ℕ)
messages_first [] = []
messages_first ((number, text) ∷ texts) = before (spelled text) (messages_first texts)

-- the refusal of the text of this number, or else that of those after it
abbrev pub refused_at : ℕ → Result (List ℕ) TextFault → Option RunFault → Option RunFault
refused_at number (Ok message) later = later
refused_at number (Err fault) later = Some (Text number fault)

-- The first of these texts that is refused, by its line's number and its fault, if there is one.
abbrev pub refusal_in : List (ℕ × List ℕ) → Option RunFault
refusal_in [] = None
refusal_in ((number, text) ∷ texts) = refused_at number (spelled text) (refusal_in texts)
