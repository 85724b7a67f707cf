-- The spelling of a frame is heard as that frame.
use Rattle.std.proofs.Common.{◌≡◌, ◌≤◌, ◌∙◌, ℕ, List, [], ◌∷◌, ◌++◌, refl, ap, sym, length, Ok}
use Rattle.std.proofs.lemmas.List.{append-nil}
use Rattle.uecp_frame.specs.declared.frame.Frame.{Frame}
use Rattle.uecp_frame.specs.Stuffing.{stuffed, unstuffed}
use Rattle.uecp_frame.specs.Segment.{judged, finding}
use Rattle.uecp_frame.specs.Frame.{plain_bytes, spelling}
use Rattle.uecp_frame.specs.Findings.{OpenPart, found, found_at, segment_found, from_delimiter, open_from}
use Rattle.uecp_frame.specs.Beyond.{closing, open_beyond, unended, IsHeard}
use Rattle.uecp_frame.proofs.Spelling.{stuffed_none}
use Rattle.uecp_frame.proofs.Delimiters.{HasNone, open_bytes-none, from_delimiter-append, before_delimiter-append}
use Rattle.uecp_frame.proofs.Decoding.{decoded-spelling, decoded-ended}
use Rattle.uecp_frame.proofs.Future.{beyond_is, found-start, found-none}
use Rattle.uecp_frame.proofs.Pieces.{open_beyond-append}
use Rattle.uecp_frame.proofs.Taking.{ends_after, end_closes, closing_unended}

ended_finding : (x : List ℕ) → HasNone x → segment_found (x ++ 255 ∷ []) ≡ judged (unstuffed x) ∷ []
unfolding segment_found finding
ended_finding x h =
    ap (λ z. found_at z (from_delimiter (x ++ 255 ∷ []))) (before_delimiter-append x (255 ∷ []) h ∙ append-nil x)
    ∙ ap (found_at x) (from_delimiter-append x (255 ∷ []) h)

judged_spelling : (f : Frame) → length f.message ≤ 255 → judged (unstuffed (stuffed (plain_bytes f))) ≡ Ok f
unfolding spelling
judged_spelling f small = sym (decoded-ended (stuffed (plain_bytes f))) ∙ decoded-spelling f small

found-spelling : (f : Frame) → length f.message ≤ 255 → found (spelling f) ≡ Ok f ∷ []
unfolding spelling
found-spelling f small =
    found-start 254 (x ++ 255 ∷ []) refl
    ∙ ap (λ g. g ++ found (x ++ 255 ∷ [])) (ended_finding x (stuffed_none (plain_bytes f))
    ∙ ap (λ r. r ∷ []) (judged_spelling f small))
    ∙ ap (λ g. Ok f ∷ g) (ends_after x 255 refl ∙ ap (λ g. found x ++ g)
    (ap (λ o. closing (open_from o) [] 255) (open_bytes-none x (stuffed_none (plain_bytes f))))
    ∙ append-nil (found x) ∙ found-none x (stuffed_none (plain_bytes f)))
  where
    x : List ℕ
    x = stuffed (plain_bytes f)

pub always_heard_lem : (o : OpenPart) (f : Frame) → length f.message ≤ 255 → IsHeard o f
unfolding spelling
always_heard_lem o f small = record {
  found = beyond_is o (spelling f) ∙ ap (λ g. g ++ found (spelling f)) (closing_unended o)
      ∙ ap (λ g. unended o ++ g) (found-spelling f small);
  left = open_beyond-append o (254 ∷ stuffed (plain_bytes f)) (255 ∷ [])
      ∙ end_closes (open_beyond o (254 ∷ stuffed (plain_bytes f)));
}
