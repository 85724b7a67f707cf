-- What the encoder applies when the frame of a number comes.
use Rattle.std.proofs.Common.{◌≡◌, ℕ, ◌+◌, ◌<◌, ◌≤◌, ◌==◌, Bool, cond, false, true, List, [], ◌∷◌, ◌++◌, length, take}
use Rattle.std.proofs.Common.{Option, Some, None, Ok, Err, refl, ap, sym, ◌∙◌, arith}
use Rattle.std.specs.Prelude.{is_some}
use Rattle.std.proofs.lemmas.Bool.{ne_eqb, ltb-true}
use Rattle.reply_ring.specs.Ring.{kept_code}
use Rattle.uecp_frame.specs.declared.frame.Frame.{Frame}
use Rattle.uecp_frame.specs.Address.{reaches}
use Rattle.uecp_frame.specs.Frame.{spelling}
use Rattle.uecp_frame.specs.Findings.{Finding, has_frame}
use Rattle.uecp_elements.specs.declared.code.Code.{Code}
use Rattle.uecp_encoder.specs.Target.{Step}
use Rattle.uecp_encoder.specs.State.{EncoderState, is_next, after_finding, after_findings}
use Rattle.uecp_encoder.specs.Answering.{Replied, NotNext, reply_of, responses, response_to, responses_to, replied}
use Rattle.uecp_encoder.specs.Laws.{fresh_in}
use Rattle.uecp_link.specs.Counters.{counter_of}
use Rattle.uecp_link.specs.Server.{ServerState}
use Rattle.uecp_link.specs.Once.{Once}
use Rattle.uecp_link.specs.Law.{frame_of, fresh_among}
use Rattle.uecp_link.specs.Kept.{pairs, code_at, Kept}
use Rattle.uecp_link.proofs.Wire.{whole}
use Rattle.uecp_link.proofs.Hearing.{after_faults, reaches_self}
use Rattle.uecp_link.proofs.Steps.{ring_answers, in_turn}

-- faults apply nothing
fresh_among-faults : {V : Type 0} (step : Step V) (e : EncoderState V) (xs : List Finding) (f : Finding)
    → has_frame xs ≡ false
    → fresh_among (responses step e (xs ++ f ∷ [])) ≡ fresh_in (response_to step (after_findings step e xs) f)
fresh_among-faults step e [] f h = omega arith
fresh_among-faults step e (Err fault ∷ xs) f h = let rest =
    fresh_among-faults step (after_finding step e (Err fault)) xs f h in omega (arith, rest)
fresh_among-faults step e (Ok g ∷ xs) f h = absurd (cc)

-- a numbered frame is applied where nothing is kept for its counter and that is the next
fresh_in-replied : {V : Type 0} (step : Step V) (e : EncoderState V) (f : Frame) (code : Option Code) (next : Bool)
    → (code ≡ None → is_next e.ring f.counter ≡ next)
    → (is_some code ≡ true → next ≡ false) → fresh_in (replied step e f code) ≡ cond next 1 0
fresh_in-replied step e f (Some code) next turn kept = rw (kept refl) refl
fresh_in-replied step e f None next turn kept = rw (turn refl) (go next)
  where
    go : (b : Bool) → fresh_in (cond b (Replied (spelling (reply_of e.address f.counter (step e.value f.message).1))
        true) NotNext) ≡ cond b 1 0
    go true = refl
    go false = refl

pub fresh_is : {V : Type 0} (step : Step V) (address : ℕ) (e : EncoderState V) (s : ServerState) (o : Once V) (p q : ℕ)
    → Kept address e s o p q
    → (k : ℕ) → k < length o.sent → length o.sent ≤ k + 127
    → fresh_among (responses_to step e (spelling (frame_of address o k))) ≡ cond (k == p) 1 0
fresh_is {V} step address e s o p q kept k below near =
    let f : Frame = frame_of address o k in
    let w = whole e.part f (kept.fits k) in
    let e2 : EncoderState V = after_findings step e w.0 in
    let same = after_faults step e address o.value (take 127 (pairs kept.base (code_at o.codes) p)) w.0 w.1
    kept.encoder in
    let reached : reaches address e2.address ≡ true = rw same.address (reaches_self address) in
    let some_number : counter_of k ≡ 0 → ⊥ = λ h. omega arith in
    let known : kept_code e2.ring (counter_of k) ≡ o.codes k =
    rw (same.ring, ← kept.encoder.ring) (ring_answers address e s o p q kept k below near) in
    let one : response_to step e2 (Ok f) ≡ replied step e2 f (o.codes k) =
    rw (reached, ne_eqb (counter_of k) 0 some_number, known) refl in
    ap (λ fs. fresh_among (responses step e fs)) w.2
    ∙ fresh_among-faults step e w.0 (Ok f) w.1
    ∙ ap fresh_in one
    ∙ fresh_in-replied step e2 f (o.codes k) (k == p)
    (λ none. ap (λ ring. is_next ring (counter_of k)) same.ring ∙ in_turn address e s o p q kept k below none)
    (λ some. let l : k < p = ltb-true k p (sym (kept.applied k) ∙ some) in
    ne_eqb k p (λ same_number. omega (arith, l, same_number)))
