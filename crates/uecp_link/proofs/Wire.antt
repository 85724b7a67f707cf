-- What the ends use of frames and findings.
use Rattle.std.proofs.Common.{◌≡◌, ◌≤◌, ℕ, false, List, [], ◌∷◌, ◌++◌, length, refl, sym, ◌∙◌, Ok}
use Rattle.uecp_frame.specs.declared.frame.Frame.{Frame}
use Rattle.uecp_frame.specs.Frame.{spelling}
use Rattle.uecp_frame.specs.Findings.{Finding, OpenPart, Closed, Doomed, Part, has_frame, found, open_part}
use Rattle.uecp_frame.specs.Beyond.{found_beyond, open_beyond, unended}
use Rattle.uecp_frame.proofs.Public.{comes_after_lem, new_start_lem, always_heard_lem}

pub found_none : found [] ≡ []
found_none = sym (new_start_lem Closed []).found ∙ (new_start_lem Closed []).nothing

pub left_none : open_part [] ≡ Closed
left_none = sym (new_start_lem Closed []).left ∙ (new_start_lem Closed []).stays

pub found_more : (x y : List ℕ) → found (x ++ y) ≡ found x ++ found_beyond (open_part x) y
found_more x y = (comes_after_lem x y).found

pub left_more : (x y : List ℕ) → open_part (x ++ y) ≡ open_beyond (open_part x) y
left_more x y = (comes_after_lem x y).left

unended_quiet : (o : OpenPart) → has_frame (unended o) ≡ false
unended_quiet Closed = refl
unended_quiet (Doomed fault) = refl
unended_quiet (Part y) = refl

-- whatever is open, a spelling ends with its frame, and what it finds before that is no frame
pub whole : (o : OpenPart) (f : Frame) → length f.message ≤ 255 →
    (faults : List Finding) × (has_frame faults ≡ false) × (found_beyond o (spelling f) ≡ faults ++ Ok f ∷ [])
whole o f small = (unended o, unended_quiet o, (always_heard_lem o f small).found)

-- and nothing is open after it
pub ended : (o : OpenPart) (f : Frame) → length f.message ≤ 255 → open_beyond o (spelling f) ≡ Closed
ended o f small = (always_heard_lem o f small).left
