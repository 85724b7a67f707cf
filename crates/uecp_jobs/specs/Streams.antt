-- Where no text is refused, what `show` and `answer` write of their pieces depends on the bytes alone, and not on the
-- lines on which these stand; laws (profile).
use Rattle.std.specs.Prelude.{◌≡◌, ℕ, List, [], ◌∷◌, ◌++◌, flat_map, None, Ok}
use Rattle.rds_store.specs.Value.{Store}
use Rattle.rds_store.specs.Step.{step}
use Rattle.uecp_frame.specs.Findings.{OpenPart, Closed, Finding, found}
use Rattle.uecp_encoder.specs.State.{EncoderState, fed}
use Rattle.uecp_encoder.specs.Answering.{Response, responses_to}
use Rattle.uecp_text.specs.Run.{Runs}
use Rattle.uecp_text.specs.Words.{bytes_in}
use Rattle.uecp_jobs.specs.Commands.{ShowsIn, AnswersIn}

-- The pieces that these texts spell, joined, are these bytes.
abbrev pub Spell : List (ℕ × List ℕ) → List ℕ → Type 0
Spell [] bytes = bytes ≡ []
Spell ((number, text) ∷ texts) bytes = (piece : List ℕ) × (rest : List ℕ) × (bytes_in text ≡ Ok piece)
    × (bytes ≡ piece ++ rest) × Spell texts rest

-- Where no text is refused, `show` writes, in whatever form, the lines of what stands in the bytes that its pieces
-- spell, joined: frames and faults, found in one stream.
abbrev pub ShowsOneStream : Type 0
ShowsOneStream =
    (lines_of : Finding → List ℕ) (texts : List (ℕ × List ℕ)) (lines : List ℕ) (left : OpenPart)
    → Runs (ShowsIn lines_of) Closed texts lines None left →
    (bytes : List ℕ) × Spell texts bytes × (lines ≡ flat_map lines_of (found bytes))

-- Where no text is refused, `answer` writes, in whatever form, the lines of what the encoder responds to those bytes as
-- one piece, and leaves the encoder that was fed them.
abbrev pub AnswersOneStream : Type 0
AnswersOneStream =
    (line_of : Response → List ℕ) (e e' : EncoderState Store) (texts : List (ℕ × List ℕ)) (lines : List ℕ)
    → Runs (AnswersIn line_of) e texts lines None e' →
    (bytes : List ℕ) × Spell texts bytes × (lines ≡ flat_map line_of (responses_to step e bytes))
    × (e' ≡ fed step e bytes)
