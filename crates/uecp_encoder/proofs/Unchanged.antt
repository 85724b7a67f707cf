-- What is kept of an encoder changes with a fresh reply alone.
use Rattle.std.proofs.Common.{◌≡◌, ℕ, ◌+◌, ◌==◌, Bool, true, false, cond, List, [], ◌∷◌, ◌++◌, Option, Some, None, Ok}
use Rattle.std.proofs.Common.{Err}
use Rattle.std.proofs.Common.{refl, ◌∙◌, ap, arith}
use Rattle.uecp_elements.specs.declared.code.Code.{Code}
use Rattle.reply_ring.specs.Ring.{kept_code}
use Rattle.uecp_frame.specs.declared.frame.Frame.{Frame}
use Rattle.uecp_frame.specs.Address.{reaches}
use Rattle.uecp_frame.specs.Frame.{spelling}
use Rattle.uecp_frame.specs.Findings.{Finding}
use Rattle.uecp_frame.specs.Beyond.{found_beyond, open_beyond}
use Rattle.uecp_encoder.specs.Target.{Step}
use Rattle.uecp_encoder.specs.State.{EncoderState, raised, is_next, applied, numbered, after_finding, after_findings}
use Rattle.uecp_encoder.specs.State.{fed}
use Rattle.uecp_encoder.specs.Answering.{Response, Replied, NotForMe, Unnumbered, NotNext, reply_of, replied}
use Rattle.uecp_encoder.specs.Answering.{response_to}
use Rattle.uecp_encoder.specs.Answering.{responses, responses_to}
use Rattle.uecp_encoder.specs.Laws.{fresh_in}
use Rattle.uecp_encoder.proofs.InPieces.{findings_open, in_pieces_of_encoder}
use Rattle.uecp_encoder.specs.Keeping.{kept_of}
use Rattle.uecp_encoder.specs.ServingWith.{fresh_among}

next_unchanged : {V : Type 0} (step : Step V) (e : EncoderState V) (f : Frame) (next : Bool) →
    fresh_in (cond next (Replied (spelling (reply_of e.address f.counter (step e.value f.message).1)) true) NotNext)
    ≡ 0 → kept_of (cond next (applied step e f) e) ≡ kept_of e
next_unchanged step e f true h = absurd (omega arith)
next_unchanged step e f false h = refl

frame_unchanged : {V : Type 0} (step : Step V) (e : EncoderState V) (f : Frame) (r z : Bool) (k : Option Code) →
    fresh_in (cond r (cond z Unnumbered (replied step e f k)) NotForMe) ≡ 0 →
    kept_of (cond r (cond z (record e { counts = record e.counts { unnumbered = raised e.counts.unnumbered } })
    (numbered step e f k)) (record e { counts = record e.counts { not_for_me = raised e.counts.not_for_me } }))
    ≡ kept_of e
frame_unchanged step e f true true k h = refl
frame_unchanged step e f true false (Some c) h = refl
frame_unchanged step e f true false None h = next_unchanged step e f (is_next e.ring f.counter) h
frame_unchanged step e f false z k h = refl

finding_unchanged : {V : Type 0} (step : Step V) (e : EncoderState V) (x : Finding) → fresh_in (response_to step e x)
    ≡ 0 → kept_of (after_finding step e x) ≡ kept_of e
finding_unchanged step e (Err fault) h = refl
finding_unchanged step e (Ok f) h = frame_unchanged step e f (reaches f.address e.address) (f.counter == 0)
    (kept_code e.ring f.counter) h

findings_unchanged : {V : Type 0} (step : Step V) (e : EncoderState V) (xs : List Finding)
    → fresh_among (responses step e xs) ≡ 0 → kept_of (after_findings step e xs) ≡ kept_of e
findings_unchanged step e [] h = refl
findings_unchanged step e (x ∷ xs) h =
    let first : fresh_in (response_to step e x) ≡ 0 = omega (arith, h) in
    let later : fresh_among (responses step (after_finding step e x) xs) ≡ 0 = omega (arith, h) in
    findings_unchanged step (after_finding step e x) xs later ∙ finding_unchanged step e x first

-- what of the line is open is no matter of what is kept
pub kept_of_fed : {V : Type 0} (step : Step V) (e : EncoderState V) (x : List ℕ)
    → kept_of (fed step e x) ≡ kept_of (after_findings step e (found_beyond e.part x))
kept_of_fed step e x = ap kept_of (findings_open step e (open_beyond e.part x) (found_beyond e.part x))

pub unchanged : {V : Type 0} (step : Step V) (e : EncoderState V) (x : List ℕ) → fresh_among (responses_to step e x) ≡ 0
    → kept_of (fed step e x) ≡ kept_of e
unchanged step e x h = kept_of_fed step e x ∙ findings_unchanged step e (found_beyond e.part x) h

-- ---- how many are fresh in two parts
pub fresh_among-append : (xs ys : List Response) → fresh_among (xs ++ ys) ≡ fresh_among xs + fresh_among ys
fresh_among-append [] ys = omega arith
fresh_among-append (x ∷ xs) ys = let later = fresh_among-append xs ys in omega (arith, later)

pub fresh_on : {V : Type 0} (step : Step V) (e : EncoderState V) (s more : List ℕ) →
    fresh_among (responses_to step e (s ++ more))
    ≡ fresh_among (responses_to step e s) + fresh_among (responses_to step (fed step e s) more)
fresh_on step e s more =
    ap fresh_among (in_pieces_of_encoder step e s more).responses
    ∙ fresh_among-append (responses_to step e s) (responses_to step (fed step e s) more)
