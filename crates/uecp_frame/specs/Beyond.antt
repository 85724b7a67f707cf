-- What more bytes find, and which part they leave open, by the part that was open before them.
use Rattle.std.specs.Prelude.{◌≡◌, ◌≢◌, ℕ, ◌==◌, if◌then◌else◌, List, [], ◌∷◌, ◌++◌, Ok, Err}
use Rattle.std.specs.List.{list_any}
use Rattle.uecp_frame.specs.declared.frame.Frame.{Frame}
use Rattle.uecp_frame.specs.declared.fault.FrameFault.TheVariants.{Unended}
use Rattle.uecp_frame.specs.Stuffing.{is_delimiter, Reading, after, unstuffed}
use Rattle.uecp_frame.specs.Segment.{judged}
use Rattle.uecp_frame.specs.Frame.{spelling}
use Rattle.uecp_frame.specs.Findings.{Finding, before_delimiter, from_delimiter, found, OpenPart, Closed, Doomed, Part}
use Rattle.uecp_frame.specs.Findings.{progress, open_part}

-- A reading goes on from what it left where bytes z follow (profile).
abbrev pub resumed : Reading → List ℕ → Reading
resumed y z = after y.plain (unstuffed (y.rest ++ z))

-- An open part comes to one finding where bytes z follow and then this FE or FF; nothing open comes to none (profile).
abbrev pub closing : OpenPart → List ℕ → ℕ → List Finding
closing Closed z delimiter = []
closing (Doomed fault) z delimiter = (if delimiter == 0xFF then Err fault else Err Unended) ∷ []
closing (Part y) z delimiter = (if delimiter == 0xFF then judged (resumed y z) else Err Unended) ∷ []

-- An open part comes to nothing yet where no FE and no FF follows the bytes z (profile).
abbrev pub closing_at : OpenPart → List ℕ → List ℕ → List Finding
closing_at o z [] = []
closing_at o z (delimiter ∷ more) = closing o z delimiter

-- The findings that x adds are what the open part comes to at the first FE or FF of x, and then those of x alone
-- (profile).
unfoldable pub found_beyond : OpenPart → List ℕ → List Finding
found_beyond o x = closing_at o (before_delimiter x) (from_delimiter x) ++ found x

-- An open part is prolonged by bytes with no FE and no FF: a certain fault stays, and a reading goes on (profile).
abbrev pub prolonged : OpenPart → List ℕ → OpenPart
prolonged Closed z = Closed
prolonged (Doomed fault) z = Doomed fault
prolonged (Part y) [] = Part y
prolonged (Part y) (b ∷ z) = progress (resumed y (b ∷ z))

-- The part that x leaves open is its own where it has an FE or FF, else the part that was open, prolonged (profile).
unfoldable pub open_beyond : OpenPart → List ℕ → OpenPart
open_beyond o x = if list_any is_delimiter x then open_part x else prolonged o x

-- ---- Laws.
-- What x finds after s, and which part it leaves open, depends on s by its open part alone.
pub record ComesAfter (s x : List ℕ) : Type 0 where
  pub found : found (s ++ x) ≡ found s ++ found_beyond (open_part s) x
  pub left : open_part (s ++ x) ≡ open_beyond (open_part s) x

-- Bytes may come in any pieces: whatever is open, two pieces find what they find joined.
pub record ComesInPieces (o : OpenPart) (x y : List ℕ) : Type 0 where
  pub found : found_beyond o (x ++ y) ≡ found_beyond o x ++ found_beyond (open_beyond o x) y
  pub left : open_beyond o (x ++ y) ≡ open_beyond (open_beyond o x) y

-- No bytes find nothing and leave all as it is; and where nothing is open, bytes find what they find from the start.
pub record IsNewStart (o : OpenPart) (x : List ℕ) : Type 0 where
  pub nothing : found_beyond o [] ≡ []
  pub stays : open_beyond o [] ≡ o
  pub found : found_beyond Closed x ≡ found x
  pub left : open_beyond Closed x ≡ open_part x

-- A new FE ends what is open as unended (profile).
abbrev pub unended : OpenPart → List Finding
unended Closed = []
unended (Doomed fault) = Err Unended ∷ []
unended (Part y) = Err Unended ∷ []

-- Whatever is open, the spelling of a frame is heard as that frame, after the end of what was open, and leaves nothing
-- open.
pub record IsHeard (o : OpenPart) (f : Frame) : Type 0 where
  pub found : found_beyond o (spelling f) ≡ unended o ++ Ok f ∷ []
  pub left : open_beyond o (spelling f) ≡ Closed

-- Bytes are a frame's spelling that breaks off where they begin it, and at least its FE stands among them and its FF
-- does not.
pub record BreaksOff (x : List ℕ) : Type 0 where
  pub frame : Frame
  pub rest : List ℕ
  pub joined : x ++ rest ≡ spelling frame
  pub begun : x ≢ []
  pub unfinished : rest ≢ []

-- Whatever is open, a spelling that breaks off holds no frame, and only ends what was open. Where the spelling of a
-- frame follows, it is dropped as unended, that frame is heard, and nothing is left open.
pub record IsPassedOver (o : OpenPart) (x : List ℕ) (next : Frame) : Type 0 where
  pub none : found_beyond o x ≡ unended o
  pub heard : found_beyond o (x ++ spelling next) ≡ unended o ++ Err Unended ∷ Ok next ∷ []
  pub left : open_beyond o (x ++ spelling next) ≡ Closed
