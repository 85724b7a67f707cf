-- What the first bytes of what comes to an encoder do to its file.
use Rattle.std.proofs.Common.{◌≡◌, ℕ, zero, suc, ◌<◌, ◌≤◌, ◌==◌, false, List, [], ◌∷◌, ◌++◌, length}
use Rattle.std.proofs.Common.{take, drop, Ok, Err, refl, ap, sym, ◌∙◌, arith, inl, inr, take-append-drop, length-drop}
use Rattle.std.proofs.Common.{eq-eqb}
use Rattle.std.proofs.lemmas.Bool.{cases_Bool, eqb-true}
use Rattle.std.proofs.lemmas.List.{length-take-le}
use Rattle.uecp_frame.specs.declared.frame.Frame.{Frame}
use Rattle.uecp_frame.specs.Frame.{spelling}
use Rattle.uecp_frame.specs.Findings.{Finding, OpenPart, Closed, Doomed, Part, has_frame}
use Rattle.uecp_frame.specs.Beyond.{found_beyond, open_beyond, unended, BreaksOff}
use Rattle.uecp_frame.proofs.Public.{in_pieces_lem, new_start_lem, passed_over_lem}
use Rattle.uecp_encoder.proofs.Public.{unchanged}
use Rattle.uecp_encoder.specs.Target.{Step}
use Rattle.uecp_encoder.specs.State.{EncoderState, after_finding, fed}
use Rattle.uecp_encoder.specs.Answering.{responses, responses_to}
use Rattle.uecp_encoder.specs.ServingWith.{fresh_among}
use Rattle.uecp_encoder.specs.Keeping.{Kept, kept_of}
use Rattle.promises.specs.Station.{saved_for}

-- ---- what begins bytes in which no frame is found
front_quiet : (xs ys : List Finding) → has_frame (xs ++ ys) ≡ false → has_frame xs ≡ false
front_quiet [] ys h = refl
front_quiet (Err fault ∷ xs) ys h = front_quiet xs ys h
front_quiet (Ok f ∷ xs) ys h = absurd (cc)

pub noise_front : (o : OpenPart) (x : List ℕ) (n : ℕ) → has_frame (found_beyond o x) ≡ false
    → has_frame (found_beyond o (take n x)) ≡ false
noise_front o x n h =
    let whole : found_beyond o x ≡ found_beyond o (take n x) ++ found_beyond (open_beyond o (take n x)) (drop n x) =
    ap (found_beyond o) (sym (take-append-drop n x)) ∙ (in_pieces_lem o (take n x) (drop n x)).found in
    front_quiet (found_beyond o (take n x)) (found_beyond (open_beyond o (take n x)) (drop n x))
    (ap has_frame (sym whole) ∙ h)

-- ---- what begins a frame's spelling and is not all of it
unended_quiet : (o : OpenPart) → has_frame (unended o) ≡ false
unended_quiet Closed = refl
unended_quiet (Doomed fault) = refl
unended_quiet (Part y) = refl

breaks_off : (f : Frame) (n : ℕ) → 0 < n → n < length (spelling f) → BreaksOff (take n (spelling f))
breaks_off f n some part =
    let front = length-take-le n (spelling f) (omega (arith, part)) in
    let back = length-drop n (spelling f) in
    record {
      frame = f;
      rest = drop n (spelling f);
      joined = take-append-drop n (spelling f);
      begun = λ is. let none = ap length is in omega (arith, front, none, some);
      unfinished = λ is. let none = ap length is in omega (arith, back, none, part);
    }

pub frame_front : (o : OpenPart) (f : Frame) (n : ℕ) → length f.message ≤ 255 → n < length (spelling f)
    → has_frame (found_beyond o (take n (spelling f))) ≡ false
frame_front o f zero small part = ap has_frame (new_start_lem o []).nothing
frame_front o f (suc n) small part =
    ap has_frame (passed_over_lem o (take (suc n) (spelling f)) f (breaks_off f (suc n) (omega arith) part) small).none
    ∙ unended_quiet o

-- ---- the file
none_fresh : {V : Type 0} (step : Step V) (e : EncoderState V) (fs : List Finding) → has_frame fs ≡ false
    → fresh_among (responses step e fs) ≡ 0
none_fresh step e [] h = refl
none_fresh step e (Err fault ∷ fs) h =
    let later = none_fresh step (after_finding step e (Err fault)) fs h in omega (arith, later)
none_fresh step e (Ok f ∷ fs) h = absurd (cc)

-- with no frame nothing is saved
pub saved_none : {V : Type 0} (step : Step V) (e : EncoderState V) (file : Kept V) (bytes : List ℕ)
    → has_frame (found_beyond e.part bytes) ≡ false → saved_for step e file bytes ≡ file
saved_none step e file bytes h =
    let none = eq-eqb (fresh_among (responses_to step e bytes)) 0 (none_fresh step e (found_beyond e.part bytes) h) in
    rw none refl

-- where a file is what is to be kept, saving for fresh replies alone leaves it so
pub saved_is : {V : Type 0} (step : Step V) (e : EncoderState V) (file : Kept V) (bytes : List ℕ) → file ≡ kept_of e
    → saved_for step e file bytes ≡ kept_of (fed step e bytes)
saved_is step e file bytes h =
    elim (cases_Bool (fresh_among (responses_to step e bytes) == 0)) [
      | inl none ↦ rw none (h ∙ sym (unchanged step e bytes
          (eqb-true (fresh_among (responses_to step e bytes)) 0 none)))
      | inr some ↦ rw some refl
    ]
