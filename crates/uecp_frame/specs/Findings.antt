-- What a byte list holds: its frames, the faults of its other segments, and what the segment at its end has come to.
use Rattle.std.specs.Prelude.{◌≡◌, ℕ, ◌+◌, ◌==◌, Bool, true, false, ◌&&◌, nat_le, if◌then◌else◌, List, [], ◌∷◌, ◌++◌}
use Rattle.std.specs.Prelude.{length, Option, Some, None, Result, Ok, Err, not}
use Rattle.std.specs.List.{list_any}
use Rattle.uecp_frame.specs.declared.frame.Frame.{Frame}
use Rattle.uecp_frame.specs.declared.fault.FrameFault.{FrameFault}
use Rattle.uecp_frame.specs.declared.fault.FrameFault.TheVariants.{BadStuffing, TooLong}
use Rattle.uecp_frame.specs.Stuffing.{is_delimiter, Reading, stuffed, unstuffed}
use Rattle.uecp_frame.specs.Segment.{is_too_long, finding}

-- A finding is a frame, or the fault of a segment (profile).
abbrev pub Finding : Type 0
Finding = Result Frame FrameFault

-- The bytes before the first FE or FF.
abbrev pub before_delimiter : List ℕ → List ℕ
before_delimiter [] = []
before_delimiter (b ∷ s) = if is_delimiter b then [] else b ∷ before_delimiter s

-- The bytes from the first FE or FF on.
abbrev pub from_delimiter : List ℕ → List ℕ
from_delimiter [] = []
from_delimiter (b ∷ s) = if is_delimiter b then b ∷ s else from_delimiter s

-- A segment with bytes x after its FE is judged at the FE or FF that comes next, and not before (SPB 490, frame
-- format).
abbrev pub found_at : List ℕ → List ℕ → List Finding
found_at x [] = []
found_at x (delimiter ∷ more) = finding x delimiter ∷ []

-- The segment that an FE before the bytes s opens goes up to their first FE or FF.
unfoldable pub segment_found : List ℕ → List Finding
segment_found s = found_at (before_delimiter s) (from_delimiter s)

-- The findings of bytes are those of the segments that their FEs open, in order: each FE opens one (SPB 490, frame
-- format). The same by places, one finding for each segment, is a law in Places.antt.
unfoldable pub found : List ℕ → List Finding
found [] = []
found (b ∷ s) = (if b == 0xFE then segment_found s else []) ++ found s

-- A frame is among findings where one of them is no fault.
abbrev pub has_frame : List Finding → Bool
has_frame [] = false
has_frame (Ok f ∷ findings) = true
has_frame (Err fault ∷ findings) = has_frame findings

-- Bytes are quiet where no frame is among their findings (profile).
abbrev pub is_quiet : List ℕ → Bool
is_quiet s = not (has_frame (found s))

-- The open bytes are those after the last FE, where no FE and no FF follows it (SPB 490, frame format).
unfoldable pub open_bytes : List ℕ → Option (List ℕ)
open_bytes [] = None
open_bytes (b ∷ s) = if list_any is_delimiter s then open_bytes s else if b == 0xFE then Some s else None

-- What matters of a segment that has not ended is that there is none, or its fault where that is certain, or else how
-- far it was read: its plain bytes, and an FD whose next byte has yet to come (profile).
pub data OpenPart : Type 0 where
  Closed : OpenPart
  Doomed : FrameFault → OpenPart
  Part : Reading → OpenPart

-- Two bytes or more.
abbrev pub has_two : List ℕ → Bool
has_two [] = false
has_two (b ∷ []) = false
has_two (b ∷ c ∷ r) = true

-- Where a bad FD is left after at most 260 plain bytes, its fault is certain; so is the length where it is too great;
-- else all of the reading matters (profile).
unfoldable pub progress : Reading → OpenPart
progress x =
    if has_two x.rest && nat_le (length x.plain) 260 then Doomed (BadStuffing (1 + length (stuffed x.plain)))
    else if is_too_long x then Doomed TooLong
    else Part x

-- The open part by the open bytes, if there are any (profile).
abbrev pub open_from : Option (List ℕ) → OpenPart
open_from None = Closed
open_from (Some x) = progress (unstuffed x)

-- The open part that bytes leave (profile).
abbrev pub open_part : List ℕ → OpenPart
open_part s = open_from (open_bytes s)

-- ---- Laws.
-- What s followed by x finds beyond what s finds depends on s by its open part alone.
abbrev pub OneFuture : Type 0
OneFuture =
    (s t x : List ℕ) (more : List Finding) → open_part s ≡ open_part t →
    found (s ++ x) ≡ found s ++ more → found (t ++ x) ≡ found t ++ more

-- The part that s followed by x leaves open depends on s by its open part alone.
abbrev pub OneOpenPart : Type 0
OneOpenPart = (s t x : List ℕ) → open_part s ≡ open_part t → open_part (s ++ x) ≡ open_part (t ++ x)
