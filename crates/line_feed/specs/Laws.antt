-- Laws of lines that are taken from an input (profile).
use Rattle.std.specs.Prelude.{◌≡◌, ℕ, List, [], ◌∷◌, ◌++◌, Option, Some}
use Rattle.std.specs.Io.KnownBytes.{Keeps, IsAtEnd}
use Rattle.uecp_text.specs.Input.{lines_of}
use Rattle.line_feed.specs.declared.feed.Next.{Next}
use Rattle.line_feed.specs.declared.feed.Next.TheVariants.{Line, End}
use Rattle.line_feed.specs.Lines.{IsFirstLine, IsNext}

-- These lines were taken one after another, each the first of what was left then.
abbrev pub AreTaken : (left left' : Option (List ℕ)) → List (List ℕ) → Type 0
AreTaken left left' [] = Keeps left left'
AreTaken left left' (line ∷ lines) =
    (between : Option (List ℕ)) × IsFirstLine left between line × AreTaken between left' lines

-- Law: what came next are lines that were taken: the one that is held, one that was passed over, or none at the end.
abbrev pub ComeByOne : Type 0
ComeByOne = (left left' : Option (List ℕ)) (held : List ℕ) (next : Next) → IsNext left left' held next
    → (lines : List (List ℕ)) × AreTaken left left' lines × (next ≡ Line → lines ≡ held ∷ [])
    × (next ≡ End → lines ≡ [])

-- Law: lines that were taken, and then others of what was left, were taken one after another.
abbrev pub GoOn : Type 0
GoOn = (left between left' : Option (List ℕ)) (lines later : List (List ℕ)) → AreTaken left between lines
    → AreTaken between left' later → AreTaken left left' (lines ++ later)

-- Law: the lines that were taken, and then the lines of what is left, are the lines of the input, however it was cut
-- into reads.
abbrev pub AreFirstLines : Type 0
AreFirstLines = (input rest : List ℕ) (lines : List (List ℕ)) → AreTaken (Some input) (Some rest) lines
    → lines_of input ≡ lines ++ lines_of rest

-- Law: at the end the lines that were taken are the lines of the input.
abbrev pub AreAllLines : Type 0
AreAllLines = (input : List ℕ) (left : Option (List ℕ)) (lines : List (List ℕ)) → AreTaken (Some input) left lines
    → IsAtEnd left → lines_of input ≡ lines
