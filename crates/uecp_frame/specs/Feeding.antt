-- What a deframer answers of a piece of the stream.
use Rattle.std.specs.Prelude.{◌≡◌, ℕ, ◌<◌, ◌≤◌, List, [], ◌∷◌, ◌++◌, length, take, Ok, Err}
use Rattle.uecp_frame.specs.declared.fed.Found.{Found}
use Rattle.uecp_frame.specs.declared.fed.Found.TheVariants.{Nothing, Frame, Refused}
use Rattle.uecp_frame.specs.declared.fed.Fed.{Fed}
use Rattle.uecp_frame.specs.Findings.{Finding, OpenPart, found, open_part}
use Rattle.uecp_frame.specs.Beyond.{found_beyond, open_beyond}

-- An answer stands for one finding or none (profile).
abbrev pub findings_of : Found → List Finding
findings_of Nothing = []
findings_of (Frame f) = Ok f ∷ []
findings_of (Refused fault) = Err fault ∷ []

-- From an open part, the bytes of a piece up to and with the one at which the first finding is judged are used, or all
-- where there is none; the answer is that finding, and what is left open is what the used bytes leave (profile).
pub record Feeds (old : OpenPart) (piece : List ℕ) (fed : Fed) (new : OpenPart) : Type 0 where
  pub used : fed.used ≤ length piece
  pub answer : found_beyond old (take fed.used piece) ≡ findings_of fed.found
  pub first : (k : ℕ) → k < fed.used → found_beyond old (take k piece) ≡ []
  pub all : fed.found ≡ Nothing → fed.used ≡ length piece
  pub left : open_beyond old (take fed.used piece) ≡ new

-- The same is said after the bytes s by what s and the used bytes find as one list (profile).
pub record FeedsAfter (s piece : List ℕ) (fed : Fed) (new : OpenPart) : Type 0 where
  pub used : fed.used ≤ length piece
  pub answer : found (s ++ take fed.used piece) ≡ found s ++ findings_of fed.found
  pub first : (k : ℕ) → k < fed.used → found (s ++ take k piece) ≡ found s
  pub all : fed.found ≡ Nothing → fed.used ≡ length piece
  pub left : open_part (s ++ take fed.used piece) ≡ new
