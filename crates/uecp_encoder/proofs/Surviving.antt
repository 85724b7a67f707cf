-- A crash loses nothing and doubles nothing.
use Rattle.std.proofs.Common.{◌≡◌, ℕ, ◌+◌, ◌-◌, ◌==◌, ◌≤◌, Bool, true, false, cond, List, [], ◌∷◌, ◌++◌, length, take}
use Rattle.std.proofs.Common.{drop, map, Option, Some, None, Ok, Err, refl, ◌∙◌, ap, sym, subst, arith, inl, inr}
use Rattle.std.proofs.Common.{length-append}
use Rattle.std.proofs.Math.Seq.{take-add}
use Rattle.std.proofs.lemmas.Bool.{cases_lt}
use Rattle.std.proofs.lemmas.List.{length-take}
use Rattle.uecp_elements.specs.declared.code.Code.{Code}
use Rattle.reply_ring.specs.Ring.{kept_code}
use Rattle.uecp_frame.specs.declared.frame.Frame.{Frame}
use Rattle.uecp_frame.specs.Address.{reaches}
use Rattle.uecp_frame.specs.Findings.{Finding, Closed}
use Rattle.uecp_encoder.specs.Target.{Step}
use Rattle.uecp_encoder.specs.State.{EncoderState, no_counts, raised, is_next, applied, numbered, after_finding}
use Rattle.uecp_encoder.specs.State.{after_findings, fed}
use Rattle.uecp_encoder.specs.Answering.{answers}
use Rattle.uecp_encoder.specs.Laws.{Happening, Finds, Becomes, after_happening, after_happenings, applied_among}
use Rattle.uecp_encoder.specs.Laws.{IsRepeat, IsNotApplied}
use Rattle.uecp_encoder.proofs.InPieces.{after_findings-append, in_pieces_of_encoder}
use Rattle.uecp_encoder.proofs.Repeating.{retry_acts_once_lem}
use Rattle.uecp_encoder.proofs.Ordering.{applied_once_lem}
use Rattle.uecp_encoder.specs.Keeping.{kept_of, going_on}
use Rattle.uecp_encoder.specs.Surviving.{LosesNothing, DoublesNothing}
use Rattle.uecp_encoder.proofs.Unchanged.{kept_of_fed}

-- ---- A crash loses nothing.

more_answers : {V : Type 0} (step : Step V) (e : EncoderState V) (s : List ℕ) (n m : ℕ) → n ≤ m
    → length (answers step e (take n s)) ≤ length (answers step e (take m s))
more_answers step e s n m less =
    let cut : take m s ≡ take n s ++ take (m - n) (drop n s) =
    ap (λ k. take k s) (let q : m ≡ n + (m - n) = omega (arith, less) in q) ∙ take-add n (m - n) s in
    let later : List ℕ = answers step (fed step e (take n s)) (take (m - n) (drop n s)) in
    let whole : answers step e (take m s) ≡ answers step e (take n s) ++ later =
    ap (answers step e) cut ∙ (in_pieces_of_encoder step e (take n s) (take (m - n) (drop n s))).answers in
    omega (arith, ap length whole, length-append (answers step e (take n s)) later)

pub loses_nothing_lem : {V : Type 0} (step : Step V) → LosesNothing step
loses_nothing_lem step e s sent left survives place some =
    let taken : List ℕ = survives.taken in
    let sent_within : length sent ≤ length (answers step e taken) =
    omega (arith, ap length survives.replied, length-take (length sent) (answers step e taken)) in
    let longer : length taken ≤ place → length (answers step e taken) ≤ length (answers step e (take place s)) =
    λ less. subst (λ (x : List ℕ). length (answers step e x) ≤ length (answers step e (take place s)))
    survives.beginning (more_answers step e s (length taken) place less) in
    elim (cases_lt place (length taken)) [
      | inl before ↦ before
      | inr less ↦ absurd (let far = longer less in omega (arith, some, sent_within, far))
    ]

-- ---- A crash doubles nothing.

next_stays : {V : Type 0} (step : Step V) (e : EncoderState V) (f : Frame) (next : Bool)
    → (cond next (applied step e f) e).address ≡ e.address
next_stays step e f true = refl
next_stays step e f false = refl

frame_stays : {V : Type 0} (step : Step V) (e : EncoderState V) (f : Frame) (r z : Bool) (k : Option Code) →
    (cond r (cond z (record e { counts = record e.counts { unnumbered = raised e.counts.unnumbered } })
    (numbered step e f k)) (record e { counts = record e.counts { not_for_me = raised e.counts.not_for_me } })).address
    ≡ e.address
frame_stays step e f true true k = refl
frame_stays step e f true false (Some c) = refl
frame_stays step e f true false None = next_stays step e f (is_next e.ring f.counter)
frame_stays step e f false z k = refl

finding_stays : {V : Type 0} (step : Step V) (e : EncoderState V) (x : Finding)
    → (after_finding step e x).address ≡ e.address
finding_stays step e (Err fault) = refl
finding_stays step e (Ok f) = frame_stays step e f (reaches f.address e.address) (f.counter == 0)
    (kept_code e.ring f.counter)

findings_stay : {V : Type 0} (step : Step V) (e : EncoderState V) (xs : List Finding)
    → (after_findings step e xs).address ≡ e.address
findings_stay step e [] = refl
findings_stay step e (x ∷ xs) = findings_stay step (after_finding step e x) xs ∙ finding_stays step e x

-- what is found, then anything that leaves address and kept replies, and what happens then
restarted_after : {V : Type 0} (step : Step V) (e : EncoderState V) (xs : List Finding) (h : Happening V)
    (since : List (Happening V)) → after_happenings step e (map Finds xs ++ h ∷ since)
    ≡ after_happenings step (after_happening step (after_findings step e xs) h) since
restarted_after step e [] h since = refl
restarted_after step e (x ∷ xs) h since = restarted_after step (after_finding step e x) xs h since

restarted_applied : {V : Type 0} (step : Step V) (e : EncoderState V) (xs : List Finding) (value : V)
    (since : List (Happening V)) →
    applied_among step e (map Finds xs ++ Becomes value no_counts Closed ∷ since)
    ≡ applied_among step e (map Finds xs)
    + applied_among step (after_happening step (after_findings step e xs) (Becomes value no_counts Closed)) since
restarted_applied step e [] value since = omega arith
restarted_applied step e (x ∷ xs) value since =
    let later = restarted_applied step (after_finding step e x) xs value since in
    omega (arith, later)

pub doubles_nothing_lem : {V : Type 0} (step : Step V) → DoublesNothing step
doubles_nothing_lem {V} step e s sent left survives earlier later frame reply since found_is fresh =
    let e0 : EncoderState V = after_findings step e earlier in
    let e1 : EncoderState V = after_finding step e0 (Ok frame) in
    let e2 : EncoderState V = after_findings step e1 later in
    let again : EncoderState V = going_on e.address left in
    let restart : Happening V = Becomes e2.value no_counts Closed in
    let hs : List (Happening V) = map Finds later ++ restart ∷ since in
    let left_is : left ≡ kept_of e2 =
    survives.state ∙ kept_of_fed step e survives.taken ∙ ap (λ xs. kept_of (after_findings step e xs)) found_is
    ∙ ap kept_of (after_findings-append step e earlier (Ok frame ∷ later)) in
    let at : e2.address ≡ e.address =
    findings_stay step e1 later ∙ finding_stays step e0 (Ok frame) ∙ findings_stay step e earlier in
    let again_is : after_happening step e2 restart ≡ again =
    ap (λ (a : ℕ). going_on a (kept_of e2)) at ∙ ap (going_on e.address) (sym left_is) in
    let goes : after_happenings step e1 hs ≡ after_happenings step again since =
    restarted_after step e1 later restart since ∙ ap (λ d. after_happenings step d since) again_is in
    let count : applied_among step e1 hs ≡ applied_among step e1 (map Finds later) + applied_among step again since =
    restarted_applied step e1 later e2.value since
    ∙ ap (λ d. applied_among step e1 (map Finds later) + applied_among step d since) again_is in
    record {
      answered = λ few. subst (λ d. IsRepeat step d frame reply) goes
          (retry_acts_once_lem step e0 frame reply hs fresh (omega (arith, few, count)));
      not_applied = λ few. subst (λ d. IsNotApplied step d frame) goes
          (applied_once_lem step e0 frame reply hs fresh (omega (arith, few, count)));
    }
