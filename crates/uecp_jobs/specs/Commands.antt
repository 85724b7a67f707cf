-- What texts say to the commands `show` and `answer` (profile).
use Rattle.std.specs.Prelude.{◌≡◌, ℕ, List, flat_map, Ok, IsErr}
use Rattle.uecp_frame.specs.Findings.{OpenPart, Finding}
use Rattle.uecp_frame.specs.Beyond.{found_beyond, open_beyond}
use Rattle.rds_store.specs.Value.{Store}
use Rattle.rds_store.specs.Step.{step}
use Rattle.uecp_encoder.specs.State.{EncoderState, fed}
use Rattle.uecp_encoder.specs.Answering.{Response, responses_to}
use Rattle.uecp_text.specs.declared.text_fault.TextFault.TheVariants.{NotHex}
use Rattle.uecp_lines.specs.Lines.{finding_lines, response_line}
use Rattle.uecp_text.specs.Run.{Meaning, Brings, Ends, Refuses}
use Rattle.uecp_text.specs.Words.{bytes_in}

-- To `show` a piece brings the lines of what its bytes find after the part that is open, and leaves open what they
-- leave open; any other text is not hex, and changes nothing.
abbrev pub ShowsIn : (lines_of : Finding → List ℕ) → Meaning OpenPart
ShowsIn lines_of part text (Brings lines) part' = (piece : List ℕ) × (bytes_in text ≡ Ok piece)
    × (lines ≡ flat_map lines_of (found_beyond part piece)) × (part' ≡ open_beyond part piece)
ShowsIn lines_of part text (Ends lines) part' = ⊥
ShowsIn lines_of part text (Refuses fault) part' = (fault ≡ NotHex) × IsErr (bytes_in text) × (part' ≡ part)

abbrev pub Shows : Meaning OpenPart
Shows = ShowsIn finding_lines

-- To `answer` a piece brings the lines of the encoder's responses to what its bytes find, and leaves the encoder that
-- was fed these bytes; any other text is not hex, and changes nothing.
abbrev pub AnswersIn : (line_of : Response → List ℕ) → Meaning (EncoderState Store)
AnswersIn line_of e text (Brings lines) e' = (piece : List ℕ) × (bytes_in text ≡ Ok piece)
    × (lines ≡ flat_map line_of (responses_to step e piece)) × (e' ≡ fed step e piece)
AnswersIn line_of e text (Ends lines) e' = ⊥
AnswersIn line_of e text (Refuses fault) e' = (fault ≡ NotHex) × IsErr (bytes_in text) × (e' ≡ e)

abbrev pub Answers : Meaning (EncoderState Store)
Answers = AnswersIn response_line
