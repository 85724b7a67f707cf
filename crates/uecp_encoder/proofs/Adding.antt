-- One thing more in a batch.
use Rattle.std.proofs.Common.{◌≡◌, ℕ, ◌+◌, ◌*◌, ◌<◌, ◌≤◌, ◌==◌, ◌||◌, Bool, true, false, not, List, [], ◌∷◌, ◌++◌}
use Rattle.std.proofs.Common.{length}
use Rattle.std.proofs.Common.{◌-◌, inl, inr, take, drop, flat_map, Option, Some, None, refl, ◌∙◌, ap, sym, subst}
use Rattle.std.proofs.Common.{arith, length-append}
use Rattle.std.proofs.Math.Seq.{take-add}
use Rattle.std.proofs.lemmas.Bool.{cases_lt}
use Rattle.std.proofs.lemmas.Bool.Decides.{nat_tests}
use Rattle.std.proofs.lemmas.List.{append-nil}
use Rattle.uecp_frame.specs.Findings.{Finding, OpenPart}
use Rattle.uecp_frame.specs.Beyond.{found_beyond, open_beyond}
use Rattle.uecp_frame.proofs.Public.{in_pieces_lem, new_start_lem}
use Rattle.uecp_encoder.specs.Target.{Step}
use Rattle.uecp_encoder.specs.State.{EncoderState, after_finding, after_findings, fed}
use Rattle.uecp_encoder.specs.Answering.{Response, responses, responses_to, response_to, bytes_sent, answers}
use Rattle.uecp_encoder.specs.Laws.{fresh_in}
use Rattle.uecp_encoder.specs.Serving.{replies_in, replies_among}
use Rattle.uecp_encoder.specs.declared.batch.Batch.{Batch}
use Rattle.uecp_encoder.specs.declared.listener.Event.{Event}
use Rattle.uecp_encoder.specs.declared.outcome.Outcome.{Outcome}
use Rattle.uecp_encoder.specs.declared.outcome.Outcome.TheVariants as outcome
use Rattle.uecp_encoder.specs.Outcomes.{said_of}
use Rattle.uecp_encoder.specs.ServingWith.{fresh_among}
use Rattle.uecp_encoder.specs.Telling.{Tells, response_of}
use Rattle.uecp_encoder.specs.Batches.{IsBatch, TellsOf, TellsEach}
use Rattle.uecp_encoder.proofs.InPieces.{findings_open, in_pieces_of_encoder}
use Rattle.uecp_encoder.proofs.InParts.{responses_none, replies_among-append}
use Rattle.uecp_encoder.proofs.Unchanged.{fresh_among-append}
use Rattle.uecp_encoder.proofs.Saving.{found_on}
use Rattle.uecp_encoder.proofs.Hearing.{tells_any}

-- nothing in it
pub batch_none : {V : Type 0} (listens : Bool) (step : Step V) (e : EncoderState V) (batch : Batch)
    → batch.replies.items ≡ [] → batch.count ≡ 0 → batch.fresh ≡ false → batch.found ≡ 0 → batch.events.items ≡ []
    → IsBatch listens step e [] batch
batch_none listens step e batch replies count fresh none_found events =
    let none = responses_none step e in
    let found = (new_start_lem e.part []).nothing in
    record {
      replies = replies ∙ sym (ap (flat_map bytes_sent) none);
      count = count ∙ sym (ap replies_among none);
      fresh = fresh ∙ sym (ap (λ rs. not (fresh_among rs == 0)) none);
      events = λ is. subst (λ xs. TellsEach step e xs batch.events.items) (sym found)
          (subst (λ events. TellsEach step e [] events) (sym events) tt);
      silent = λ is. events;
      found = none_found ∙ sym (ap length found);
      room = omega (arith, ap length events);
      short = omega (arith, ap length replies);
      few = omega (arith, count);
      slow = omega (arith, none_found);
    }

-- what is told of it, and of one thing more
each_more : {V : Type 0} (step : Step V) (e : EncoderState V) (xs : List Finding) (events : List (Option Event))
    (x : Finding) (event : Event) → TellsEach step e xs events → Tells step (after_findings step e xs) x event
    → TellsEach step e (xs ++ x ∷ []) (events ++ Some event ∷ [])
each_more step e [] [] x event tells more = (more, tt)
each_more step e [] (other ∷ events) x event tells more = absurd tells
each_more step e (y ∷ xs) [] x event tells more = absurd tells
each_more step e (y ∷ xs) (None ∷ events) x event tells more = absurd tells
each_more step e (y ∷ xs) (Some other ∷ events) x event (tell, tells) more =
    (tell, each_more step (after_finding step e y) xs events x event tells more)

both_fresh : (a b : ℕ) → (not (a == 0) || not (b == 0)) ≡ not (a + b == 0)
both_fresh a b = grind (arith, nat_tests)

length-responses : {V : Type 0} (step : Step V) (e : EncoderState V) (xs : List Finding)
    → length (responses step e xs) ≡ length xs
length-responses step e [] = refl
length-responses step e (x ∷ xs) = let later = length-responses step (after_finding step e x) xs in
    omega (arith, later)

either_fresh : (a b : ℕ) → (not (a == 0) || not (b == 0)) ≡ not (a + (b + 0) == 0)
either_fresh a b = grind (arith, nat_tests)

module _ {V : Type 0} (step : Step V) (start e : EncoderState V) (bytes more : List ℕ)
    (state : e ≡ fed step start bytes) where
  responses_more : responses_to step start (bytes ++ more)
      ≡ responses_to step start bytes ++ responses_to step e more
  responses_more =
      (in_pieces_of_encoder step start bytes more).responses
      ∙ ap (λ d. responses_to step start bytes ++ responses_to step d more) (sym state)

  answers_more : answers step start (bytes ++ more) ≡ answers step start bytes ++ answers step e more
  answers_more =
      (in_pieces_of_encoder step start bytes more).answers
      ∙ ap (λ d. answers step start bytes ++ answers step d more) (sym state)

  e_is : e ≡ record (after_findings step start (found_beyond start.part bytes)) { part = open_beyond start.part bytes }
  e_is = state ∙ findings_open step start (open_beyond start.part bytes) (found_beyond start.part bytes)

  found_more : found_beyond start.part (bytes ++ more)
      ≡ found_beyond start.part bytes ++ found_beyond e.part more
  found_more =
      (in_pieces_lem start.part bytes more).found
      ∙ ap (λ o. found_beyond start.part bytes ++ found_beyond o more)
      (sym (ap (λ (d : EncoderState V). d.part) e_is))

  -- nothing more was found
  pub batch_same : (batch : Batch) → TellsOf step e (found_beyond e.part more) None
      → IsBatch true step start bytes batch → IsBatch true step start (bytes ++ more) batch
  batch_same batch told is = same (found_beyond e.part more) refl told
    where
      same : (xs : List Finding) → found_beyond e.part more ≡ xs → TellsOf step e xs None
          → IsBatch true step start (bytes ++ more) batch
      same (x ∷ xs) found told = absurd told
      same [] found told =
          let rs : responses_to step start (bytes ++ more) ≡ responses_to step start bytes =
          responses_more ∙ ap (λ xs. responses_to step start bytes ++ responses step e xs) found
          ∙ append-nil (responses_to step start bytes) in
          let xs : found_beyond start.part (bytes ++ more) ≡ found_beyond start.part bytes =
          found_more ∙ ap (λ ys. found_beyond start.part bytes ++ ys) found
          ∙ append-nil (found_beyond start.part bytes) in
          record {
            replies = is.replies ∙ sym (ap (flat_map bytes_sent) rs);
            count = is.count ∙ sym (ap replies_among rs);
            fresh = is.fresh ∙ sym (ap (λ ys. not (fresh_among ys == 0)) rs);
            events = λ here. subst (λ ys. TellsEach step start ys batch.events.items) (sym xs) (is.events here);
            silent = is.silent;
            found = is.found ∙ sym (ap length xs);
            room = is.room;
            short = is.short;
            few = is.few;
            slow = omega (arith, length-append bytes more, is.slow);
          }

  -- one thing more was
  pub batch_more : (batch batch' : Batch) (event : Event)
      → TellsOf step e (found_beyond e.part more) (Some event) → 0 < length more
      → batch'.replies.items ≡ batch.replies.items ++ bytes_sent (response_of event.answer)
      → batch'.count ≡ batch.count + replies_in (response_of event.answer)
      → batch'.fresh ≡ (batch.fresh || not (fresh_in (response_of event.answer) == 0))
      → batch'.events.items ≡ batch.events.items ++ Some event ∷ []
      → batch'.found ≡ batch.found + 1
      → length batch'.replies.items ≤ length batch.replies.items + 16 → batch'.count ≤ batch.count + 1
      → IsBatch true step start bytes batch → IsBatch true step start (bytes ++ more) batch'
  batch_more batch batch' event told some replies_are count_is fresh_is events_are one_more short few is =
      one (found_beyond e.part more) refl told
    where
      one : (xs : List Finding) → found_beyond e.part more ≡ xs → TellsOf step e xs (Some event)
          → IsBatch true step start (bytes ++ more) batch'
      one [] found told = absurd told
      one (x ∷ xs) found (tells, alone) =
          let r : Response = response_of event.answer in
          let before : List Response = responses_to step start bytes in
          let found_is : found_beyond e.part more ≡ x ∷ [] = found ∙ ap (λ ys. x ∷ ys) alone in
          let here : responses_to step e more ≡ r ∷ [] =
          ap (responses step e) found_is ∙ ap (λ s. s ∷ []) tells.answer in
          let rs : responses_to step start (bytes ++ more) ≡ before ++ r ∷ [] =
          responses_more ∙ ap (λ ys. before ++ ys) here in
          let ys : found_beyond start.part (bytes ++ more) ≡ found_beyond start.part bytes ++ x ∷ [] =
          found_more ∙ ap (λ ys. found_beyond start.part bytes ++ ys) found_is in
          let longer : length batch'.events.items ≡ length batch.events.items + 1 =
          ap length events_are ∙ length-append batch.events.items (Some event ∷ []) in
          record {
            replies = replies_are ∙ ap (λ s. s ++ bytes_sent r) is.replies
                ∙ sym (answers_more ∙ ap (λ s. answers step start bytes ++ flat_map bytes_sent s) here
                ∙ ap (λ s. answers step start bytes ++ s) (append-nil (bytes_sent r)));
            count = omega (
              arith,
              count_is,
              is.count,
              ap replies_among rs ∙ replies_among-append before (r ∷ []),
            );
            fresh = fresh_is ∙ ap (λ b. b || not (fresh_in r == 0)) is.fresh
                ∙ either_fresh (fresh_among before) (fresh_in r)
                ∙ sym (ap (λ s. not (s == 0)) (ap fresh_among rs ∙ fresh_among-append before (r ∷ [])));
            events = λ here. subst (λ s. TellsEach step start s batch'.events.items) (sym ys)
                (subst (λ s. TellsEach step start (found_beyond start.part bytes ++ x ∷ []) s) (sym events_are)
                (each_more step start (found_beyond start.part bytes) batch.events.items x event (is.events here)
                (tells_any step (after_findings step start (found_beyond start.part bytes))
                (open_beyond start.part bytes) x event (subst (λ d. Tells step d x event) e_is tells))));
            silent = λ no. absurd (cc);
            found = omega (
              arith,
              one_more,
              is.found,
              ap length ys ∙ length-append (found_beyond start.part bytes) (x ∷ []),
            );
            room = omega (arith, longer, one_more, is.room);
            short = omega (arith, one_more, is.short, short);
            few = omega (arith, one_more, is.few, few);
            slow = omega (arith, one_more, length-append bytes more, is.slow, some);
          }

  -- what more was found, if anything, is told to nobody
  pub batch_untold : (batch batch' : Batch) (rs : List Response) → responses_to step e more ≡ rs → length rs ≤ 1
      → 0 < length more → batch'.replies.items ≡ batch.replies.items ++ flat_map bytes_sent rs
      → batch'.count ≡ batch.count + replies_among rs
      → batch'.fresh ≡ (batch.fresh || not (fresh_among rs == 0)) → batch'.found ≡ batch.found + length rs
      → batch'.events.items ≡ batch.events.items
      → length batch'.replies.items ≤ length batch.replies.items + 16 * length rs
      → batch'.count ≤ batch.count + length rs
      → IsBatch false step start bytes batch → IsBatch false step start (bytes ++ more) batch'
  batch_untold batch batch' rs here one some replies_are count_is fresh_is found_is events_are short few is =
      let before : List Response = responses_to step start bytes in
      let all : responses_to step start (bytes ++ more) ≡ before ++ rs =
      responses_more ∙ ap (λ ys. before ++ ys) here in
      let found : length (found_beyond e.part more) ≡ length rs =
      sym (length-responses step e (found_beyond e.part more)) ∙ ap length here in
      record {
        replies = replies_are ∙ ap (λ s. s ++ flat_map bytes_sent rs) is.replies
            ∙ sym (answers_more ∙ ap (λ s. answers step start bytes ++ flat_map bytes_sent s) here);
        count = omega (arith, count_is, is.count, ap replies_among all ∙ replies_among-append before rs);
        fresh = fresh_is ∙ ap (λ b. b || not (fresh_among rs == 0)) is.fresh
            ∙ both_fresh (fresh_among before) (fresh_among rs)
            ∙ sym (ap (λ s. not (s == 0)) (ap fresh_among all ∙ fresh_among-append before rs));
        events = λ no. absurd (cc);
        silent = λ quiet. events_are ∙ is.silent quiet;
        found = omega (
          arith,
          found_is,
          is.found,
          found,
          ap length found_more ∙ length-append (found_beyond start.part bytes) (found_beyond e.part more),
        );
        room = omega (arith, ap length events_are, found_is, is.room);
        short = omega (arith, found_is, is.short, short);
        few = omega (arith, found_is, is.few, few);
        slow = omega (arith, found_is, length-append bytes more, is.slow, some, one);
      }

-- an outcome says one thing at most
pub said_one : (address : ℕ) (o : Outcome) → length (said_of address o) ≤ 1
said_one address outcome.Nothing = omega arith
said_one address (outcome.Dropped fault) = omega arith
said_one address outcome.NotForMe = omega arith
said_one address outcome.Unnumbered = omega arith
said_one address outcome.NotNext = omega arith
said_one address (outcome.Reply code counter fresh) = omega arith

-- before its last byte a batch is not full
pub not_full : {V : Type 0} (step : Step V) (e e1 : EncoderState V) (piece rest : List ℕ) (at used most : ℕ)
    → e1 ≡ fed step e (take at piece) → rest ≡ drop at piece → length (found_beyond e.part (take at piece)) < most
    → ((k : ℕ) → k < at → length (found_beyond e.part (take k piece)) < most)
    → ((k : ℕ) → k < used → found_beyond e1.part (take k rest) ≡ [])
    → (k : ℕ) → k < at + used → length (found_beyond e.part (take k piece)) < most
not_full step e e1 piece rest at used most state rest_is here fewer first k less =
    elim (cases_lt k at) [
      | inl before ↦ fewer k before
      | inr after ↦
          let more : List ℕ = take (k - at) (drop at piece) in
          let cut : take k piece ≡ take at piece ++ more =
          ap (λ n. take n piece) (let q : k ≡ at + (k - at) = omega (arith, after) in q) ∙ take-add at (k - at) piece in
          let none : length (found_beyond e1.part more) ≡ 0 =
          ap (λ l. length (found_beyond e1.part (take (k - at) l))) (sym rest_is)
          ∙ ap length (first (k - at) (omega (arith, less, after))) in
          omega (
            arith,
            ap (λ l. length (found_beyond e.part l)) cut ∙ found_on step e e1 (take at piece) more state,
            none,
            here,
          )
    ]
