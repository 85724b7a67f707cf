-- One part of a call after another, up to where it stops.
use Rattle.std.proofs.Common.{◌≡◌, ℕ, ◌+◌, ◌-◌, ◌<◌, ◌≤◌, List, [], ◌∷◌, ◌++◌, length, take, drop, flat_map, refl, ◌∙◌}
use Rattle.std.proofs.Common.{ap, sym, subst, arith, length-append, Option, Err}
use Rattle.std.proofs.Math.Seq.{take-append-add, take-add}
use Rattle.std.proofs.lemmas.List.{append-nil}
use Rattle.uecp_frame.specs.Findings.{Finding}
use Rattle.uecp_frame.specs.Beyond.{found_beyond}
use Rattle.uecp_encoder.specs.Target.{Step}
use Rattle.uecp_encoder.specs.State.{EncoderState, fed}
use Rattle.uecp_encoder.specs.Answering.{responses, responses_to, bytes_sent, answers}
use Rattle.uecp_encoder.specs.declared.serving.ServeFault.{ServeFault}
use Rattle.uecp_encoder.specs.declared.serving.ServeFault.TheVariants.{ReadFailed, WriteFailed, TurnsSpent}
use Rattle.uecp_encoder.specs.declared.serving.KeptFault.TheVariants.{Serve}
use Rattle.uecp_encoder.specs.Serving.{AnswersAll, StopsWriting, Serves}
use Rattle.uecp_encoder.specs.declared.answering.Stop.{Stop}
use Rattle.uecp_encoder.specs.declared.answering.Stop.TheVariants as stop
use Rattle.uecp_encoder.specs.Keeping.{Kept}
use Rattle.uecp_encoder.specs.ServingWith.{fresh_among, IsTogether, StopsAnswering, StopsSaving, ServesOrStops}
use Rattle.uecp_encoder.specs.ServingWith.{SavesFor}
use Rattle.uecp_encoder.specs.Batches.{Keeps, Breaks, Takes, SavesUpTo, StopsAt, stopped_after}
use Rattle.uecp_encoder.proofs.InPieces.{in_pieces_of_encoder}
use Rattle.uecp_encoder.proofs.InParts.{sends_nothing, sends_on}
use Rattle.uecp_encoder.proofs.Unchanged.{fresh_on}
use Rattle.uecp_encoder.proofs.Saving.{found_on, saves_nothing, saves_on, saves_most}
use Rattle.uecp_encoder.proofs.Beginnings.{outlives_on, answers_on, fed_on_is}

-- one more byte behind the first part
pub next_is : (s more : List ℕ) (place : ℕ) → take (length s + place + 1) (s ++ more) ≡ s ++ take (place + 1) more
next_is s more place =
    ap (λ n. take n (s ++ more)) (let q : length s + place + 1 ≡ length s + (place + 1) = omega arith in q)
    ∙ take-append-add s more (place + 1)

together_on : {V : Type 0} (most : ℕ) (step : Step V) (e e1 : EncoderState V) (s more : List ℕ) (start place : ℕ)
    → e1 ≡ fed step e s → IsTogether most e1.part more start place
    → IsTogether most e.part (s ++ more) (length s + start) (length s + place)
together_on most step e e1 s more start place state second = record {
  in_order = omega (arith, second.in_order);
  within = omega (arith, second.within, length-append s more);
  few = omega (
    arith,
    ap (λ x. length (found_beyond e.part x)) (take-append-add s more place) ∙ found_on step e e1 s (take place more)
        state,
    ap (λ x. length (found_beyond e.part x)) (take-append-add s more start) ∙ found_on step e e1 s (take start more)
        state,
    second.few,
  );
}

answering_on : {V : Type 0} (most : ℕ) (step : Step V) (e e1 e2 : EncoderState V) (s sent more now : List ℕ)
    (w start place : ℕ) → AnswersAll step e e1 s sent → StopsAnswering most step e1 e2 more now w start place
    → StopsAnswering most step e e2 (s ++ more) (sent ++ now) (length sent + w) (length s + start) (length s + place)
answering_on most step e e1 e2 s sent more now w start place first second =
    let with_it : take (length s + place + 1) (s ++ more) ≡ s ++ take (place + 1) more = next_is s more place in
    let before : length (answers step e (take (length s + start) (s ++ more))) ≡ length sent
    + length (answers step e1 (take start more)) =
    ap (λ x. length (answers step e x)) (take-append-add s more start)
    ∙ ap length (answers_on step e e1 s sent (take start more) first)
    ∙ length-append sent (answers step e1 (take start more)) in
    let due : length (answers step e (take (length s + place + 1) (s ++ more))) ≡ length sent
    + length (answers step e1 (take (place + 1) more)) =
    ap (λ x. length (answers step e x)) with_it ∙ ap length (answers_on step e e1 s sent (take (place + 1) more) first)
    ∙ length-append sent (answers step e1 (take (place + 1) more)) in
    record {
      together = together_on most step e e1 s more start place first.state second.together;
      state = second.state ∙ fed_on_is step e e1 s (take (place + 1) more) first.state ∙ ap (fed step e) (sym with_it);
      written = ap (λ x. sent ++ x) second.written ∙ sym (take-append-add sent (answers step e1 more) w)
          ∙ ap (take (length sent + w)) (sym (answers_on step e e1 s sent more first));
      before = omega (arith, before, second.before);
      due = omega (arith, due, second.due);
    }

saving_on : {V : Type 0} (most : ℕ) (step : Step V) (e e1 e2 : EncoderState V) (s sent more now : List ℕ)
    (start place : ℕ) → AnswersAll step e e1 s sent → StopsSaving most step e1 e2 more now start place
    → StopsSaving most step e e2 (s ++ more) (sent ++ now) (length s + start) (length s + place)
saving_on most step e e1 e2 s sent more now start place first second =
    let up_to : take (length s + start) (s ++ more) ≡ s ++ take start more = take-append-add s more start in
    let with_it : take (length s + place + 1) (s ++ more) ≡ s ++ take (place + 1) more = next_is s more place in
    let moved : (x : List ℕ) → fresh_among (responses_to step e (s ++ x))
    ≡ fresh_among (responses_to step e s) + fresh_among (responses_to step e1 x) =
    λ x. fresh_on step e s x
    ∙ ap (λ d. fresh_among (responses_to step e s) + fresh_among (responses_to step d x)) (sym first.state) in
    record {
      together = together_on most step e e1 s more start place first.state second.together;
      state = second.state ∙ fed_on_is step e e1 s (take (place + 1) more) first.state ∙ ap (fed step e) (sym with_it);
      written = ap (λ x. sent ++ x) second.written ∙ sym (answers_on step e e1 s sent (take start more) first)
          ∙ ap (answers step e) (sym up_to);
      fresh = omega (
        arith,
        ap (λ x. fresh_among (responses_to step e x)) up_to ∙ moved (take start more),
        ap (λ x. fresh_among (responses_to step e x)) with_it ∙ moved (take (place + 1) more),
        second.fresh,
      );
    }

-- ---- where nothing but the last byte finds something, what is taken together is one thing
pub stops_writing : {V : Type 0} (step : Step V) (e e' : EncoderState V) (s sent : List ℕ) (w start place : ℕ)
    → StopsAnswering 1 step e e' s sent w start place → StopsWriting step e e' s sent w place
stops_writing step e e' s sent w start place stops =
    let head : List ℕ = take start s in
    let rest : List ℕ = take (place - start) (drop start s) in
    let at : EncoderState _ = fed step e head in
    let order : start + (place - start) ≡ place = omega (arith, stops.together.in_order) in
    let cut : take place s ≡ head ++ rest = ap (λ n. take n s) (sym order) ∙ take-add start (place - start) s in
    let counted : length (found_beyond e.part (take place s)) ≡ length (found_beyond e.part head)
    + length (found_beyond at.part rest) =
    ap (λ x. length (found_beyond e.part x)) cut ∙ found_on step e at head rest refl in
    let none : found_beyond at.part rest ≡ [] = empty (found_beyond at.part rest)
    (let q : length (found_beyond at.part rest) ≡ 0 = omega (arith, counted, stops.together.few) in q) in
    let same : answers step e (take place s) ≡ answers step e head =
    ap (answers step e) cut ∙ (in_pieces_of_encoder step e head rest).answers
    ∙ ap (λ xs. answers step e head ++ flat_map bytes_sent (responses step at xs)) none
    ∙ append-nil (answers step e head) in
    record {
      within = stops.together.within;
      state = stops.state;
      written = stops.written;
      before = omega (arith, ap length same, stops.before);
      due = stops.due;
    }
  where
    empty : (xs : List Finding) → length xs ≡ 0 → xs ≡ []
    empty [] is = refl
    empty (x ∷ xs) is = absurd (omega (arith, is))

-- so a call that answers one thing at a time is as `serve` says
pub serves_fault : {V : Type 0} (step : Step V) (e e' : EncoderState V) (s sent : List ℕ) (unread : Option (List ℕ))
    (turns : ℕ) (fault : ServeFault) → ServesOrStops 1 512 step e e' s sent unread turns (Err (Serve fault))
    → Serves step e e' s sent unread turns (Err fault)
serves_fault step e e' s sent unread turns ReadFailed serves = serves
serves_fault step e e' s sent unread turns TurnsSpent serves = serves
serves_fault step e e' s sent unread turns (WriteFailed w) (start, place, stops, near) =
    (place, stops_writing step e e' s sent w start place stops, near)

module _ {V K : Type 0} (most : ℕ) (step : Step V) (leaves : K → Kept V → Type 0) (is_clean : K → Type 0)
    (saves fails : K → Kept V → K → Type 0) where
  keeps_nothing : (e : EncoderState V) (k : K) → Keeps step leaves is_clean e e k k []
  keeps_nothing e k = record {
    settled = λ start clean. start;
    clean = λ clean. clean;
    same = λ none. refl;
  }

  pub keeps_on : (e e1 e2 : EncoderState V) (k k1 k2 : K) (s more : List ℕ) → e1 ≡ fed step e s →
      Keeps step leaves is_clean e e1 k k1 s → Keeps step leaves is_clean e1 e2 k1 k2 more
      → Keeps step leaves is_clean e e2 k k2 (s ++ more)
  keeps_on e e1 e2 k k1 k2 s more state first second =
      let parts = fresh_on step e s more in
      let moved : fresh_among (responses_to step e1 more) ≡ fresh_among (responses_to step (fed step e s) more) =
      ap (λ d. fresh_among (responses_to step d more)) state in
      record {
        settled = λ start clean. second.settled (first.settled start (second.clean clean)) clean;
        clean = λ clean. first.clean (second.clean clean);
        same = λ none. second.same (omega (arith, parts, moved, none)) ∙ first.same (omega (arith, parts, none));
      }

  pub takes_nothing : (e : EncoderState V) (k : K) → Takes most step leaves is_clean saves e e k k [] [] 0 0 0
  takes_nothing e k = record {
    sends = sends_nothing step e;
    keeps = keeps_nothing e k;
    saved = saves_nothing most saves step e k;
  }

  pub takes_on : (e e1 e2 : EncoderState V) (k k1 k2 : K) (s sent more now : List ℕ) (n r b n' r' b' : ℕ) →
      Takes most step leaves is_clean saves e e1 k k1 s sent n r b
      → Takes most step leaves is_clean saves e1 e2 k1 k2 more now n' r' b'
      → Takes most step leaves is_clean saves e e2 k k2 (s ++ more) (sent ++ now) (n + n') (r + r') (b + b')
  takes_on e e1 e2 k k1 k2 s sent more now n r b n' r' b' first second = record {
    sends = sends_on step e e1 e2 s sent more now r b r' b' first.sends second.sends;
    keeps = keeps_on e e1 e2 k k1 k2 s more first.sends.all.state first.keeps second.keeps;
    saved = saves_on most saves step e e1 s more n n' k k1 k2 first.sends.all.state first.saved second.saved;
  }

  -- as one read
  pub takes_most : (e e' : EncoderState V) (k k' : K) (s sent : List ℕ) (n r b : ℕ) → n ≤ 1
      → Takes most step leaves is_clean saves e e' k k' s sent n r b
      → Takes most step leaves is_clean saves e e' k k' s sent 1 r b
  takes_most e e' k k' s sent n r b few taken = record {
    sends = taken.sends;
    keeps = taken.keeps;
    saved = saves_most most saves step e s n k k' few taken.saved;
  }

  breaks_on : (e e1 : EncoderState V) (k k1 k2 : K) (s sent more now : List ℕ) → AnswersAll step e e1 s sent →
      Keeps step leaves is_clean e e1 k k1 s → Breaks step leaves is_clean e1 k1 k2 more now
      → Breaks step leaves is_clean e k k2 (s ++ more) (sent ++ now)
  breaks_on e e1 k k1 k2 s sent more now all first second = record {
    outlives = λ start clean left is. outlives_on step e e1 s sent more now left all
        (second.outlives (first.settled start (second.clean clean)) clean left is);
    clean = λ clean. first.clean (second.clean clean);
  }

  -- the first bytes of the second part, after the first part
  saves_up_to : (e e1 : EncoderState V) (k k1 k2 : K) (s more : List ℕ) (at n n' : ℕ) → e1 ≡ fed step e s
      → SavesFor most saves step e s n k k1 → SavesFor most saves step e1 (take at more) n' k1 k2
      → SavesFor most saves step e (take (length s + at) (s ++ more)) (n + n') k k2
  saves_up_to e e1 k k1 k2 s more at n n' state first second =
      subst (λ x. SavesFor most saves step e x (n + n') k k2) (sym (take-append-add s more at))
      (saves_on most saves step e e1 s (take at more) n n' k k1 k2 state first second)

  -- the bytes before are those that were written
  pub stops_at_on : (e e1 e2 : EncoderState V) (k k1 k2 : K) (s sent more now : List ℕ) (n r b n' start place : ℕ)
      (why : Stop) → Takes most step leaves is_clean saves e e1 k k1 s sent n r b
      → StopsAt most step leaves is_clean saves fails e1 e2 k1 k2 more now n' start place why
      → StopsAt most step leaves is_clean saves fails e e2 k k2 (s ++ more) (sent ++ now) (n + n') (length s + start)
      (length s + place) (stopped_after b why)
  stops_at_on e e1 e2 k k1 k2 s sent more now n r b n' start place (stop.Write w) first (stops, keeps, saved) = (
    subst (λ m. StopsAnswering most step e e2 (s ++ more) (sent ++ now) (m + w) (length s + start) (length s + place))
        (sym first.sends.bytes_are)
        (answering_on most step e e1 e2 s sent more now w start place first.sends.all stops),
    keeps_on e e1 e2 k k1 k2 s more first.sends.all.state first.keeps keeps,
    subst (λ m. SavesFor most saves step e (take m (s ++ more)) (n + n') k k2)
        (let q : length s + (place + 1) ≡ length s + place + 1 = omega arith in q)
        (saves_up_to e e1 k k1 k2 s more (place + 1) n n' first.sends.all.state first.saved saved),
  )
  stops_at_on e e1 e2 k k1 k2 s sent more now n r b n' start place stop.State first
      (stops, breaks, (before, saved, failed)) = (
        saving_on most step e e1 e2 s sent more now start place first.sends.all stops,
        breaks_on e e1 k k1 k2 s sent more now first.sends.all first.keeps breaks,
        (before, saves_up_to e e1 k k1 before s more start n n' first.sends.all.state first.saved saved, failed),
      )
