-- An encoder over its days is one that lived once.
use Rattle.std.proofs.Common.{◌≡◌, ℕ, ◌==◌, Bool, true, false, cond, List, [], ◌∷◌, ◌++◌, Option, Some, None, Ok, Err}
use Rattle.std.proofs.Common.{refl, sym, ap, subst, ◌∙◌, arith, ◌+◌, length, take, drop, take_all, take-append-drop}
use Rattle.std.proofs.Common.{take-take, ◌≤◌}
use Rattle.std.proofs.lemmas.List.{take-append-le, take_min, length-take}
use Rattle.std.proofs.lemmas.Bool.{eqb-true}
use Rattle.uecp_elements.specs.declared.code.Code.{Code}
use Rattle.reply_ring.specs.Ring.{kept_code, newest}
use Rattle.uecp_frame.specs.declared.frame.Frame.{Frame}
use Rattle.uecp_frame.specs.Address.{reaches}
use Rattle.uecp_frame.specs.Frame.{spelling}
use Rattle.uecp_frame.specs.Findings.{Finding, Closed}
use Rattle.uecp_frame.specs.Beyond.{found_beyond, open_beyond}
use Rattle.uecp_encoder.specs.Target.{Step, Taken}
use Rattle.uecp_encoder.specs.State.{EncoderState, next_after, raised, is_next, applied, numbered, after_finding}
use Rattle.uecp_encoder.specs.State.{after_findings, fed}
use Rattle.uecp_encoder.specs.Answering.{Replied, NotForMe, Unnumbered, NotNext, reply_of, replied}
use Rattle.uecp_encoder.specs.Laws.{fresh_in, Follow}
use Rattle.uecp_encoder.specs.Keeping.{Kept, kept_of, going_on}
use Rattle.promises.specs.DeviceLives.{DeviceEvent, Reads, HangsUp, Crashes, TakesGroup, StartsAgain}
use Rattle.promises.specs.DeviceLives.{Deed, Applies}
use Rattle.promises.specs.DeviceLives.{TakesOne, deeds_in, deeds_among, deeds_of, after_deed, after_deeds}
use Rattle.promises.specs.DeviceLives.{counters_of, Happens, DeviceLives, DaysAreOneLife}
use Rattle.promises.specs.DeviceLives.{CallsAreEvents}
use Rattle.uecp_encoder.proofs.Public.{findings_open, in_pieces_of_encoder}
use Rattle.uecp_encoder.specs.declared.serving.ServeFault.TheVariants.{ReadFailed, WriteFailed, TurnsSpent}
use Rattle.uecp_encoder.specs.declared.serving.KeptFault.TheVariants as kept
use Rattle.uecp_encoder.specs.Answering.{answers}
use Rattle.uecp_encoder.specs.Serving.{AnswersAll}
use Rattle.uecp_encoder.specs.ServingWith.{Ended, ServesOrStops, StopsAnswering, StopsSaving}

-- These counters follow this one, and the last of them is this.
abbrev Leads : (last : Option ℕ) → List Deed → (now : Option ℕ) → Type 0
Leads last [] now = last ≡ now
Leads last (Applies counter message ∷ later) now = (counter ≡ next_after last) × Leads (Some counter) later now
Leads last (TakesOne ∷ later) now = Leads last later now

leads_on : (last mid now : Option ℕ) (xs ys : List Deed) → Leads last xs mid → Leads mid ys now
    → Leads last (xs ++ ys) now
leads_on last mid now [] ys h more = subst (λ l. Leads l ys now) (sym h) more
leads_on last mid now (Applies counter message ∷ xs) ys h more = (h.0, leads_on (Some counter) mid now xs ys h.1 more)
leads_on last mid now (TakesOne ∷ xs) ys h more = leads_on last mid now xs ys h more

leads_follow : (last now : Option ℕ) (xs : List Deed) → Leads last xs now → Follow last (counters_of xs)
leads_follow last now [] h = tt
leads_follow last now (Applies counter message ∷ xs) h = (h.0, leads_follow (Some counter) now xs h.1)
leads_follow last now (TakesOne ∷ xs) h = leads_follow last now xs h

-- a list starts with all of it, and with some first of it
take_whole : (s : List ℕ) → take (length s) s ≡ s
take_whole s = take_all (length s) s (omega arith)

starts_taken : (s : List ℕ) (n : ℕ) → take (length (take n s)) s ≡ take n s
starts_taken s n = ap (λ m. take m s) (length-take n s) ∙ take_min n s

module _ {V : Type 0} (step : Step V) (taken : Taken V) where
  pub deeds_on : (k : Kept V) (xs ys : List Deed)
      → after_deeds step taken k (xs ++ ys) ≡ after_deeds step taken (after_deeds step taken k xs) ys
  deeds_on k [] ys = refl
  deeds_on k (x ∷ xs) ys = deeds_on (after_deed step taken k x) xs ys

  -- one life so far
  pub record Lived (e e' : EncoderState V) (deeds : List Deed) : Type 0 where
    pub store : kept_of e' ≡ after_deeds step taken (kept_of e) deeds
    pub leads : Leads (newest e.ring) deeds (newest e'.ring)
    pub address : e'.address ≡ e.address

  pub lived_on : (e e1 e2 : EncoderState V) (xs ys : List Deed) → Lived e e1 xs → Lived e1 e2 ys → Lived e e2 (xs ++ ys)
  lived_on e e1 e2 xs ys one more = record {
    store = more.store ∙ ap (λ k. after_deeds step taken k ys) one.store ∙ sym (deeds_on (kept_of e) xs ys);
    leads = leads_on (newest e.ring) (newest e1.ring) (newest e2.ring) xs ys one.leads more.leads;
    address = more.address ∙ one.address;
  }

  -- the same encoder, but for what it counted and what is open
  pub still_lived : (e e1 e2 : EncoderState V) (deeds : List Deed) → kept_of e2 ≡ kept_of e1
      → e2.address ≡ e1.address → Lived e e1 deeds → Lived e e2 deeds
  still_lived e e1 e2 deeds kept address l = record {
    store = kept ∙ l.store;
    leads = subst (λ (k : Kept V). Leads (newest e.ring) deeds (newest k.ring)) (sym kept) l.leads;
    address = address ∙ l.address;
  }

  -- a group is taken
  pub taken_lived : (e e1 : EncoderState V) (deeds : List Deed) → Lived e e1 deeds
      → Lived e (record e1 { value = (taken e1.value).0 }) (deeds ++ TakesOne ∷ [])
  taken_lived e e1 deeds l =
      lived_on e e1 (record e1 { value = (taken e1.value).0 }) deeds (TakesOne ∷ []) l
      (record { store = refl; leads = refl; address = refl })

  -- ---- A finding.

  -- a numbered frame whose counter is not kept, by whether it is the next
  new_lived : (e : EncoderState V) (f : Frame) (next : Bool) → is_next e.ring f.counter ≡ next
      → Lived e (cond next (applied step e f) e) (cond (fresh_in (cond next
      (Replied (spelling (reply_of e.address f.counter (step e.value f.message).1)) true) NotNext) == 1)
      (Applies f.counter f.message ∷ []) [])
  new_lived e f true is = record {
    store = refl;
    leads = (eqb-true f.counter (next_after (newest e.ring)) is, refl);
    address = refl;
  }
  new_lived e f false is = record { store = refl; leads = refl; address = refl }

  -- a frame, by whether it reaches the encoder, whether it has counter 00, and what is kept for its counter
  frame_lived : (e : EncoderState V) (f : Frame) (r z : Bool) (k : Option Code)
      → Lived e (cond r (cond z (record e { counts = record e.counts { unnumbered = raised e.counts.unnumbered } })
      (numbered step e f k)) (record e { counts = record e.counts { not_for_me = raised e.counts.not_for_me } }))
      (cond (fresh_in (cond r (cond z Unnumbered (replied step e f k)) NotForMe) == 1)
      (Applies f.counter f.message ∷ []) [])
  frame_lived e f true true k = record { store = refl; leads = refl; address = refl }
  frame_lived e f true false (Some c) = record { store = refl; leads = refl; address = refl }
  frame_lived e f true false None = new_lived e f (is_next e.ring f.counter) refl
  frame_lived e f false z k = record { store = refl; leads = refl; address = refl }

  finding_lived : (e : EncoderState V) (f : Finding) → Lived e (after_finding step e f) (deeds_in step e f)
  finding_lived e (Ok f) = frame_lived e f (reaches f.address e.address) (f.counter == 0) (kept_code e.ring f.counter)
  finding_lived e (Err fault) = record { store = refl; leads = refl; address = refl }

  findings_lived : (e : EncoderState V) (fs : List Finding)
      → Lived e (after_findings step e fs) (deeds_among step e fs)
  findings_lived e [] = record { store = refl; leads = refl; address = refl }
  findings_lived e (f ∷ fs) =
      let e1 : EncoderState V = after_finding step e f in
      lived_on e e1 (after_findings step e1 fs) (deeds_in step e f) (deeds_among step e1 fs) (finding_lived e f)
      (findings_lived e1 fs)

  -- ---- Bytes.

  pub fed_lived : (e : EncoderState V) (bytes : List ℕ) → Lived e (fed step e bytes) (deeds_of step e bytes)
  fed_lived e bytes =
      let found = found_beyond e.part bytes in
      let part = open_beyond e.part bytes in
      let l = findings_lived e found in
      subst (λ (y : EncoderState V). Lived e y (deeds_of step e bytes)) (sym (findings_open step e part found))
      (record {
        store = l.store;
        leads = l.leads;
        address = l.address;
      })

  -- ---- An event.

  read_so : (e e' : EncoderState V) (took : List ℕ) (deeds : List Deed) → deeds ≡ deeds_of step e took
      → e' ≡ fed step e took → Lived e e' deeds
  read_so e e' took deeds are is =
      subst (λ ds. Lived e e' ds) (sym are)
      (subst (λ (y : EncoderState V). Lived e y (deeds_of step e took)) (sym is) (fed_lived e took))

  went_on : (e e' : EncoderState V) (took : List ℕ) (left : Kept V) (deeds : List Deed) → deeds ≡ deeds_of step e took
      → left ≡ kept_of (fed step e took) → e' ≡ going_on e.address left → Lived e e' deeds
  went_on e e' took left deeds are left_is is =
      let l = fed_lived e took in
      let so : Lived e (going_on e.address (kept_of (fed step e took))) (deeds_of step e took) =
      record { store = l.store; leads = l.leads; address = refl } in
      subst (λ ds. Lived e e' ds) (sym are)
      (subst (λ (y : EncoderState V). Lived e y (deeds_of step e took))
      (sym (is ∙ ap (λ k. going_on e.address k) left_is)) so)

  event_lived : (event : DeviceEvent) (e : EncoderState V) (deeds : List Deed) (e' : EncoderState V)
      → Happens step taken event e deeds e' → Lived e e' deeds
  event_lived (Reads came sent) e deeds e' (took, serves, are, is) = read_so e e' took deeds are is
  event_lived HangsUp e deeds e' (are, is) =
      let so : Lived e (record e { part = Closed }) [] = record { store = refl; leads = refl; address = refl } in
      subst (λ ds. Lived e e' ds) (sym are) (subst (λ (y : EncoderState V). Lived e y []) (sym is) so)
  event_lived (Crashes came sent) e deeds e' (left, cut, are, is) =
      went_on e e' cut.taken left deeds are cut.state is
  event_lived TakesGroup e deeds e' (are, is) =
      let so : Lived e (record e { value = (taken e.value).0 }) (TakesOne ∷ []) =
      record { store = refl; leads = refl; address = refl } in
      subst (λ ds. Lived e e' ds) (sym are) (subst (λ (y : EncoderState V). Lived e y (TakesOne ∷ [])) (sym is) so)
  event_lived StartsAgain e deeds e' (are, is) =
      let so : Lived e (going_on e.address (kept_of e)) [] =
      record { store = refl; leads = refl; address = refl } in
      subst (λ ds. Lived e e' ds) (sym are) (subst (λ (y : EncoderState V). Lived e y []) (sym is) so)

  days_lived : (events : List DeviceEvent) (e e' : EncoderState V) (deeds : List Deed)
      → DeviceLives step taken events e deeds e' → Lived e e' deeds
  days_lived [] e e' deeds (none, same) =
      let so : Lived e e [] = record { store = refl; leads = refl; address = refl } in
      subst (λ ds. Lived e e' ds) (sym none) (subst (λ (y : EncoderState V). Lived e y []) (sym same) so)
  days_lived (event ∷ events) e e' deeds (some, more, y, first, rest, all) =
      subst (λ ds. Lived e e' ds) (sym all)
      (lived_on e y e' some more (event_lived event e some y first) (days_lived events y e' more rest))

  pub days_lem : DaysAreOneLife step taken
  days_lem events e e' deeds lives =
      let l = days_lived events e e' deeds lives in record {
        store = l.store;
        in_order = leads_follow (newest e.ring) (newest e'.ring) deeds l.leads;
        address = l.address;
      }

  -- ---- A call.

  abbrev Read : (e e' : EncoderState V) → (s sent : List ℕ) → Type 0
  Read e e' s sent = (deeds : List Deed) × Happens step taken (Reads s sent) e deeds e'

  all_answered : (e e' : EncoderState V) (s sent : List ℕ) → AnswersAll step e e' s sent → Read e e' s sent
  all_answered e e' s sent all = (
    deeds_of step e s,
    (
      s,
      record {
        beginning = take_whole s;
        replied = subst (λ b. take (length b) (answers step e s) ≡ b) (sym all.written) (take_whole (answers step e s));
      },
      refl,
      all.state,
    ),
  )

  stopped_answering : (most : ℕ) (e e' : EncoderState V) (s sent : List ℕ) (w start place : ℕ)
      → StopsAnswering most step e e' s sent w start place → Read e e' s sent
  stopped_answering most e e' s sent w start place stops =
      let took = take (place + 1) s in
      let later = drop (place + 1) s in
      let pieces = in_pieces_of_encoder step e took later in
      let whole : answers step e s ≡ answers step e took ++ answers step (fed step e took) later =
      ap (λ b. answers step e b) (sym (take-append-drop (place + 1) s)) ∙ pieces.answers in
      let sent_is : sent ≡ take w (answers step e took) =
      stops.written ∙ ap (take w) whole
      ∙ take-append-le w (answers step e took) (answers step (fed step e took) later) (omega (arith, stops.due)) in (
        deeds_of step e took,
        (
          took,
          record {
            beginning = starts_taken s (place + 1);
            replied = subst (λ b. take (length b) (answers step e took) ≡ b) (sym sent_is)
                (starts_taken (answers step e took) w);
          },
          refl,
          stops.state,
        ),
      )

  -- a beginning of some bytes gives a beginning of their replies
  answers_begin : (e : EncoderState V) (s : List ℕ) (n m : ℕ) → n ≤ m
      → take (length (answers step e (take n s))) (answers step e (take m s)) ≡ answers step e (take n s)
  answers_begin e s n m less =
      let took = take n s in
      let later = drop n (take m s) in
      let front : take n (take m s) ≡ take n s = take-take n m s less in
      let cut : took ++ later ≡ take m s =
      ap (λ b. b ++ later) (sym front) ∙ take-append-drop n (take m s) in
      let pieces = in_pieces_of_encoder step e took later in
      let whole : answers step e (take m s) ≡ answers step e took ++ answers step (fed step e took) later =
      ap (λ b. answers step e b) (sym cut) ∙ pieces.answers in
      ap (take (length (answers step e took))) whole
      ∙ take-append-le (length (answers step e took)) (answers step e took) (answers step (fed step e took) later)
      (omega arith)
      ∙ take_whole (answers step e took)

  stopped_saving : (most : ℕ) (e e' : EncoderState V) (s sent : List ℕ) (start place : ℕ)
      → StopsSaving most step e e' s sent start place → Read e e' s sent
  stopped_saving most e e' s sent start place stops =
      let took = take (place + 1) s in (
        deeds_of step e took,
        (
          took,
          record {
            beginning = starts_taken s (place + 1);
            replied = subst (λ b. take (length b) (answers step e took) ≡ b) (sym stops.written)
                (answers_begin e s start (place + 1) (let o = stops.together.in_order in omega (arith, o)));
          },
          refl,
          stops.state,
        ),
      )

  call_read : (most room : ℕ) (e e' : EncoderState V) (s sent : List ℕ) (unread : Option (List ℕ)) (turns : ℕ)
      (ended : Ended) → ServesOrStops most room step e e' s sent unread turns ended → Read e e' s sent
  call_read most room e e' s sent unread turns (Ok served) (all, end, read, replies) = all_answered e e' s sent all
  call_read most room e e' s sent unread turns (Err (kept.Serve ReadFailed)) all = all_answered e e' s sent all
  call_read most room e e' s sent unread turns (Err (kept.Serve TurnsSpent)) (all, spent) =
      all_answered e e' s sent all
  call_read most room e e' s sent unread turns (Err (kept.Serve (WriteFailed w))) (start, place, stops, few) =
      stopped_answering most e e' s sent w start place stops
  call_read most room e e' s sent unread turns (Err kept.StateFailed) (start, place, stops, few) =
      stopped_saving most e e' s sent start place stops

  pub calls_lem : {K : Type 0} (most room : ℕ) (leaves : K → Kept V → Type 0) (is_clean : K → Type 0)
      (saves fails : K → Kept V → K → Type 0) → CallsAreEvents most room step taken leaves is_clean saves fails
  calls_lem most room leaves is_clean saves fails e e' k k' s sent unread turns reads ended call = record {
    read = call_read most room e e' s sent unread turns ended call.serves;
    cut = λ settled clean left leaves_it.
        (let cut = call.kept settled clean left leaves_it in (deeds_of step e cut.taken, (left, cut, refl, refl)));
  }
