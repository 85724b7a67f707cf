-- Where the stream is cut makes no difference, and a frame is heard after noise.
use Rattle.std.proofs.Common.{◌≡◌, ℕ, ◌==◌, Bool, true, false, not, cond, List, [], ◌∷◌, ◌++◌, Option, Some, None, Ok}
use Rattle.std.proofs.Common.{Err, refl, ◌∙◌, ap, sym, append_assoc}
use Rattle.std.specs.Prelude.{flat_map}
use Rattle.std.proofs.lemmas.List.Concat.{flat_map-append}
use Rattle.uecp_elements.specs.declared.code.Code.{Code}
use Rattle.reply_ring.specs.Ring.{kept_code}
use Rattle.uecp_frame.specs.declared.frame.Frame.{Frame}
use Rattle.uecp_frame.specs.Address.{reaches}
use Rattle.uecp_frame.specs.Frame.{spelling}
use Rattle.uecp_frame.specs.Findings.{Finding, OpenPart, Closed, Doomed, Part, has_frame, found, open_part}
use Rattle.uecp_frame.specs.Beyond.{found_beyond, open_beyond, unended}
use Rattle.uecp_frame.proofs.Public.{in_pieces_lem, new_start_lem, comes_after_lem, always_heard_lem}
use Rattle.uecp_encoder.specs.Target.{Step}
use Rattle.uecp_encoder.specs.State.{EncoderState, raised, is_next, applied, numbered, after_finding, after_findings}
use Rattle.uecp_encoder.specs.State.{fed}
use Rattle.uecp_encoder.specs.Answering.{response_to, responses, responses_to, bytes_sent, answers}
use Rattle.uecp_encoder.specs.Laws.{IsInPieces, found_in_pieces, joined, IsHeardAfterNoise}

-- ---- an encoder
pub after_findings-append : {V : Type 0} (step : Step V) (e : EncoderState V) (xs ys : List Finding)
    → after_findings step e (xs ++ ys) ≡ after_findings step (after_findings step e xs) ys
after_findings-append step e [] ys = refl
after_findings-append step e (x ∷ xs) ys = after_findings-append step (after_finding step e x) xs ys

responses-append : {V : Type 0} (step : Step V) (e : EncoderState V) (xs ys : List Finding)
    → responses step e (xs ++ ys) ≡ responses step e xs ++ responses step (after_findings step e xs) ys
responses-append step e [] ys = refl
responses-append step e (x ∷ xs) ys = ap (λ rs. response_to step e x ∷ rs)
    (responses-append step (after_finding step e x) xs ys)

-- the open part is no matter of findings
abbrev with_open : {V : Type 0} → EncoderState V → OpenPart → EncoderState V
with_open e o = record e { part = o }

next_open : {V : Type 0} (step : Step V) (e : EncoderState V) (o : OpenPart) (f : Frame) (next : Bool)
    → cond next (applied step (with_open e o) f) (with_open e o) ≡ with_open (cond next (applied step e f) e) o
next_open step e o f true = refl
next_open step e o f false = refl

finding_open : {V : Type 0} (step : Step V) (e : EncoderState V) (o : OpenPart) (x : Finding)
    → after_finding step (with_open e o) x ≡ with_open (after_finding step e x) o
finding_open step e o (Err fault) = refl
finding_open step e o (Ok f) = go (reaches f.address e.address) (f.counter == 0) (kept_code e.ring f.counter)
  where
    go : (r z : Bool) (k : Option Code) →
        cond r (cond z (record (with_open e o) { counts = record e.counts { unnumbered = raised e.counts.unnumbered } })
        (numbered step (with_open e o) f k))
        (record (with_open e o) { counts = record e.counts { not_for_me = raised e.counts.not_for_me } })
        ≡ with_open (cond r (cond z (record e { counts = record e.counts { unnumbered = raised e.counts.unnumbered } })
        (numbered step e f k)) (record e { counts = record e.counts { not_for_me = raised e.counts.not_for_me } }))
        o
    go true true k = refl
    go true false (Some c) = refl
    go true false None = next_open step e o f (is_next e.ring f.counter)
    go false z k = refl

pub findings_open : {V : Type 0} (step : Step V) (e : EncoderState V) (o : OpenPart) (xs : List Finding)
    → after_findings step (with_open e o) xs ≡ with_open (after_findings step e xs) o
findings_open step e o [] = refl
findings_open step e o (x ∷ xs) = ap (λ d. after_findings step d xs) (finding_open step e o x)
    ∙ findings_open step (after_finding step e x) o xs

responses_open : {V : Type 0} (step : Step V) (e : EncoderState V) (o : OpenPart) (xs : List Finding)
    → responses step (with_open e o) xs ≡ responses step e xs
responses_open step e o [] = refl
responses_open step e o (x ∷ xs) =
    ap (λ rs. response_to step e x ∷ rs) (ap (λ d. responses step d xs) (finding_open step e o x)
    ∙ responses_open step (after_finding step e x) o xs)
    ∙ ap (λ r. r ∷ responses step (after_finding step e x) xs) (response_open x)
  where
    response_open : (x : Finding) → response_to step (with_open e o) x ≡ response_to step e x
    response_open (Err fault) = refl
    response_open (Ok f) = refl

pub fed-part : {V : Type 0} (step : Step V) (e : EncoderState V) (x : List ℕ)
    → (fed step e x).part ≡ open_beyond e.part x
fed-part step e x = ap (λ d. d.part) (findings_open step e (open_beyond e.part x) (found_beyond e.part x))

fed-append : {V : Type 0} (step : Step V) (e : EncoderState V) (x y : List ℕ)
    → fed step e (x ++ y) ≡ fed step (fed step e x) y
fed-append step e x y =
    let pieces = in_pieces_lem e.part x y in
    let o : OpenPart = open_beyond (open_beyond e.part x) y in
    let ys : List Finding = found_beyond (open_beyond e.part x) y in
    ap (λ p. after_findings step (with_open e p) (found_beyond e.part (x ++ y))) pieces.left
    ∙ ap (after_findings step (with_open e o)) pieces.found
    ∙ after_findings-append step (with_open e o) (found_beyond e.part x) ys
    ∙ ap (λ d. after_findings step d ys) (findings_open step e o (found_beyond e.part x)
    ∙ sym (ap (λ d. with_open d o) (findings_open step e (open_beyond e.part x) (found_beyond e.part x))))
    ∙ ap (λ p. after_findings step (with_open (fed step e x) (open_beyond p y)) (found_beyond p y))
    (sym (fed-part step e x))

responses_to-append : {V : Type 0} (step : Step V) (e : EncoderState V) (x y : List ℕ)
    → responses_to step e (x ++ y) ≡ responses_to step e x ++ responses_to step (fed step e x) y
responses_to-append step e x y =
    let pieces = in_pieces_lem e.part x y in
    let xs : List Finding = found_beyond e.part x in
    let ys : List Finding = found_beyond (open_beyond e.part x) y in
    ap (responses step e) pieces.found
    ∙ responses-append step e xs ys
    ∙ ap (λ rs. responses_to step e x ++ rs)
    (sym (responses_open step (after_findings step e xs) (open_beyond e.part x) ys)
    ∙ ap (λ d. responses step d ys) (sym (findings_open step e (open_beyond e.part x) xs))
    ∙ ap (λ p. responses step (fed step e x) (found_beyond p y)) (sym (fed-part step e x)))

answers-append : {V : Type 0} (step : Step V) (e : EncoderState V) (x y : List ℕ)
    → answers step e (x ++ y) ≡ answers step e x ++ answers step (fed step e x) y
answers-append step e x y =
    ap (flat_map bytes_sent) (responses_to-append step e x y)
    ∙ flat_map-append bytes_sent (responses_to step e x) (responses_to step (fed step e x) y)

pub in_pieces_of_encoder : {V : Type 0} (step : Step V) (e : EncoderState V) (x y : List ℕ) → IsInPieces step e x y
in_pieces_of_encoder step e x y = record {
  state = fed-append step e x y;
  responses = responses_to-append step e x y;
  answers = answers-append step e x y;
}

-- ---- a frame after noise
found_joined : (o : OpenPart) (pieces : List (List ℕ)) → found_in_pieces o pieces ≡ found_beyond o (joined pieces)
found_joined o [] = sym (new_start_lem o []).nothing
found_joined o (piece ∷ pieces) =
    ap (λ fs. found_beyond o piece ++ fs) (found_joined (open_beyond o piece) pieces)
    ∙ sym (in_pieces_lem o piece (joined pieces)).found

has_frame-append : (xs ys : List Finding) → has_frame xs ≡ false → has_frame ys ≡ false → has_frame (xs ++ ys) ≡ false
has_frame-append [] ys h k = k
has_frame-append (Err fault ∷ xs) ys h k = has_frame-append xs ys h k
has_frame-append (Ok f ∷ xs) ys h k = absurd (cc)

unended_quiet : (o : OpenPart) → has_frame (unended o) ≡ false
unended_quiet Closed = refl
unended_quiet (Doomed fault) = refl
unended_quiet (Part y) = refl

quiet_has_none : (b : Bool) → not b ≡ true → b ≡ false
quiet_has_none true h = cc
quiet_has_none false h = refl

pub heard_after_noise_lem : IsHeardAfterNoise
heard_after_noise_lem noise f pieces quiet small whole = (
  found noise ++ unended (open_part noise),
  has_frame-append (found noise) (unended (open_part noise)) (quiet_has_none (has_frame (found noise)) quiet)
      (unended_quiet (open_part noise)),
  found_joined Closed pieces ∙ ap (found_beyond Closed) whole ∙ (new_start_lem Closed (noise ++ spelling f)).found
      ∙ (comes_after_lem noise (spelling f)).found ∙ ap (λ g. found noise ++ g)
      (always_heard_lem (open_part noise) f small).found
      ∙ sym (append_assoc (found noise) (unended (open_part noise)) (Ok f ∷ [])),
)
