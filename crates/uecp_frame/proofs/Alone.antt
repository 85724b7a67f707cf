-- A segment that stands alone, by what a deframer finds in it.
use Rattle.std.proofs.Common.{◌≡◌, ◌<◌, ◌≤◌, ◌-◌, ◌==◌, ℕ, zero, suc, true, false, refl, List, [], ◌∷◌, ◌++◌, ◌∙◌, ap}
use Rattle.std.proofs.Common.{sym, length, take, get_or, arith, Result, Ok, Err, inl, inr}
use Rattle.std.specs.List.{list_any}
use Rattle.std.proofs.lemmas.Bool.{cases_lt, cases_Bool, or_parts, eqb-false}
use Rattle.std.proofs.lemmas.List.{append-nil, take-take, take_all}
use Rattle.uecp_frame.specs.declared.frame.Frame.{Frame as FrameValue}
use Rattle.uecp_frame.specs.declared.fault.FrameFault.{FrameFault}
use Rattle.uecp_frame.specs.declared.fault.FrameFault.TheVariants.{Unended}
use Rattle.uecp_frame.specs.declared.fed.Found.{Found}
use Rattle.uecp_frame.specs.declared.fed.Found.TheVariants.{Nothing, Frame, Refused}
use Rattle.uecp_frame.specs.declared.fed.Fed.{Fed}
use Rattle.uecp_frame.specs.Stuffing.{is_delimiter}
use Rattle.uecp_frame.specs.Segment.{IsSegment, inner, finding, decoded}
use Rattle.uecp_frame.specs.Findings.{OpenPart, Closed, found, open_bytes, open_from}
use Rattle.uecp_frame.specs.Beyond.{closing}
use Rattle.uecp_frame.specs.Feeding.{Feeds, findings_of}
use Rattle.uecp_frame.proofs.Delimiters.{HasNone, segment_found-none, open_bytes-here}
use Rattle.uecp_frame.proofs.Future.{found-nil, found-start, found-none, closing_is}
use Rattle.uecp_frame.proofs.Pieces.{found_beyond-closed}
use Rattle.uecp_frame.proofs.Taking.{ends_after, other_finds}
use Rattle.uecp_frame.proofs.Decoding.{split_is, decoded-unended}

-- what was found in a segment says what it is
abbrev pub decoded_of : Found → Result FrameValue FrameFault
decoded_of Nothing = Err Unended
decoded_of (Frame f) = Ok f
decoded_of (Refused fault) = Err fault

none_taken : (z : List ℕ) (m : ℕ) → HasNone z → HasNone (take m z)
none_taken [] zero h = h
none_taken [] (suc m) h = h
none_taken (b ∷ z) zero h = ap (λ (x : List ℕ). list_any is_delimiter x) (let e : take 0 (b ∷ z) ≡ [] = cc in e)
none_taken (b ∷ z) (suc m) h =
    let p = or_parts (is_delimiter b) (list_any is_delimiter z) h in
    let here = p.0 in rw here (none_taken z m p.1)

begun_found : (x : List ℕ) → HasNone x → found (254 ∷ x) ≡ []
begun_found x h = found-start 254 x refl ∙ ap (λ f. f ++ found x) (segment_found-none x h) ∙ found-none x h

-- before its last byte a segment comes to nothing
before_end : (s : List ℕ) → IsSegment s → (k : ℕ) → k < length s → found (take k s) ≡ []
before_end [] h k l = absurd (omega arith)
before_end (a ∷ y) h zero l = found-nil
before_end (a ∷ y) h (suc k) l =
    ap (λ (n : ℕ). found (n ∷ take k y)) h.begins
    ∙ begun_found (take k y) (let e : take k (inner (a ∷ y))
    ≡ take k y = take-take k (length (a ∷ y) - 1 - 1) y (omega arith) in
    sym (ap (list_any is_delimiter) e) ∙ none_taken (inner (a ∷ y)) k h.inside)

-- a segment that ends comes to its finding, and another to nothing
ended_found : (s : List ℕ) → IsSegment s → 2 ≤ length s → is_delimiter (get_or s (length s - 1) 0) ≡ true
    → found s ≡ decoded s ∷ []
unfolding decoded
ended_found s h two ends =
    let x = inner s in
    let d = get_or s (length s - 1) 0 in
    ap found (split_is s h.begins two) ∙ ends_after (254 ∷ x) d ends
    ∙ ap (λ f. f ++ closing (open_from (open_bytes (254 ∷ x))) [] d) (begun_found x h.inside)
    ∙ ap (λ o. closing (open_from o) [] d) (open_bytes-here 254 x h.inside refl) ∙ closing_is x [] d
    ∙ ap (λ y. finding y d ∷ []) (append-nil x)

open_found : (s : List ℕ) → IsSegment s → 2 ≤ length s → is_delimiter (get_or s (length s - 1) 0) ≡ false → found s ≡ []
open_found s h two stays =
    let x = inner s in
    let d = get_or s (length s - 1) 0 in
    let p = or_parts (d == 254) (d == 255) stays in
    ap found (split_is s h.begins two) ∙ other_finds (254 ∷ x) d (eqb-false d 254 p.0) (eqb-false d 255 p.1)
    ∙ begun_found x h.inside

-- ---- the answer
of_one : (answer : Found) (r : Result FrameValue FrameFault) → findings_of answer ≡ r ∷ [] → r ≡ decoded_of answer
of_one Nothing r e = absurd (cc)
of_one (Frame f) r e = cc
of_one (Refused fault) r e = cc

of_none : (answer : Found) → findings_of answer ≡ [] → answer ≡ Nothing
of_none Nothing e = refl
of_none (Frame f) e = absurd (cc)
of_none (Refused fault) e = absurd (cc)

all_used : (s : List ℕ) (fed : Fed) (new : OpenPart) → IsSegment s → Feeds Closed s fed new → fed.used ≡ length s
all_used s fed new h feeds = elim (cases_lt fed.used (length s)) [
  | inl short ↦ feeds.all (of_none fed.found (sym feeds.answer ∙ found_beyond-closed (take fed.used s)
      ∙ before_end s h fed.used short))
  | inr long ↦ omega (arith, feeds.used)
]

pub decoded_alone : (s : List ℕ) (fed : Fed) (new : OpenPart) → IsSegment s → Feeds Closed s fed new
    → decoded s ≡ decoded_of fed.found
decoded_alone s fed new h feeds = at s h answer
  where
    answer : findings_of fed.found ≡ found s
    answer = sym feeds.answer ∙ found_beyond-closed (take fed.used s)
        ∙ ap found (ap (λ (n : ℕ). take n s) (all_used s fed new h feeds) ∙ take_all (length s) s (omega arith))

    nothing : (z : List ℕ) → found z ≡ [] → findings_of fed.found ≡ found z → decoded_of fed.found ≡ Err Unended
    nothing z none is = ap decoded_of (of_none fed.found (is ∙ none))

    at : (z : List ℕ) → IsSegment z → findings_of fed.found ≡ found z → decoded z ≡ decoded_of fed.found
    at [] k is = absurd (omega (arith, k.begins))
    at (a ∷ []) k is =
        decoded-unended (a ∷ []) (λ e. absurd (omega (arith, k.begins, e)))
        ∙ sym (nothing (a ∷ []) (ap (λ (n : ℕ). found (n ∷ [])) k.begins ∙ begun_found [] refl) is)
    at (a ∷ b ∷ z) k is = elim (cases_Bool (is_delimiter (get_or (a ∷ b ∷ z) (length (a ∷ b ∷ z) - 1) 0))) [
      | inl ends ↦ of_one fed.found (decoded (a ∷ b ∷ z)) (is ∙ ended_found (a ∷ b ∷ z) k (omega arith) ends)
      | inr stays ↦
          (let p = or_parts (get_or (a ∷ b ∷ z) (length (a ∷ b ∷ z) - 1) 0 == 254)
          (get_or (a ∷ b ∷ z) (length (a ∷ b ∷ z) - 1) 0 == 255) stays in
          decoded-unended (a ∷ b ∷ z) (eqb-false (get_or (a ∷ b ∷ z) (length (a ∷ b ∷ z) - 1) 0) 255 p.1)
          ∙ sym (nothing (a ∷ b ∷ z) (open_found (a ∷ b ∷ z) k (omega arith) stays) is))
    ]
