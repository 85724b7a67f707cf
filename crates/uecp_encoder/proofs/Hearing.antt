-- What a listener is told, for one part of a stream after another.
use Rattle.std.proofs.Common.{◌≡◌, ℕ, ◌+◌, ◌-◌, ◌<◌, ◌≤◌, Bool, true, false, List, [], ◌∷◌, ◌++◌, length, take, drop}
use Rattle.std.proofs.Common.{flat_map}
use Rattle.std.proofs.Common.{refl, ◌∙◌, ap, sym, subst, arith, length-append, Option, Some, None, Ok, Err}
use Rattle.std.specs.Prelude.{nat_le}
use Rattle.std.proofs.lemmas.Bool.{le-leb}
use Rattle.std.proofs.Math.Seq.{take-append-add, drop-append-add}
use Rattle.uecp_frame.specs.Findings.{Finding, OpenPart}
use Rattle.uecp_frame.specs.Beyond.{found_beyond, open_beyond}
use Rattle.uecp_frame.proofs.Public.{in_pieces_lem, new_start_lem}
use Rattle.uecp_encoder.specs.Target.{Step}
use Rattle.uecp_encoder.specs.State.{EncoderState, after_finding, after_findings, fed}
use Rattle.uecp_encoder.specs.Answering.{response_to, responses, bytes_sent, answers}
use Rattle.uecp_encoder.specs.Serving.{AnswersAll}
use Rattle.uecp_encoder.proofs.InPieces.{findings_open}
use Rattle.uecp_encoder.proofs.InParts.{fed_none, responses_none}
use Rattle.uecp_encoder.proofs.Beginnings.{answers_on, fed_on_is}
use Rattle.uecp_encoder.proofs.Together.{next_is}
use Rattle.uecp_encoder.proofs.Codes.{event_for}
use Rattle.uecp_encoder.specs.declared.listener.Event.{Event}
use Rattle.uecp_encoder.specs.declared.answering.Stop.{Stop}
use Rattle.uecp_encoder.specs.declared.answering.Stop.TheVariants as stop
use Rattle.uecp_encoder.specs.Telling.{Tells, response_of, HearsEach, HearsFor, HearsWithin, HearsUnsent}
use Rattle.uecp_encoder.specs.Batches.{TellsEach, HeardEach, HearsUntil, stopped_after}

pub response_open : {V : Type 0} (step : Step V) (e : EncoderState V) (o : OpenPart) (x : Finding)
    → response_to step (record e { part = o }) x ≡ response_to step e x
response_open step e o (Err fault) = refl
response_open step e o (Ok f) = refl

-- what of the line is open is no matter of what is told
pub tells_open : {V : Type 0} (step : Step V) (e : EncoderState V) (o : OpenPart) (x : Finding) (event : Event)
    → Tells step e x event → Tells step (record e { part = o }) x event
tells_open step e o x event tells = record {
  found = tells.found;
  answer = response_open step e o x ∙ tells.answer;
  code = tells.code;
}

pub tells_any : {V : Type 0} (step : Step V) (e : EncoderState V) (o : OpenPart) (x : Finding) (event : Event)
    → Tells step (record e { part = o }) x event → Tells step e x event
tells_any step e o x event tells = record {
  found = tells.found;
  answer = sym (response_open step e o x) ∙ tells.answer;
  code = tells.code;
}

module _ {V L : Type 0} (hears : L → Event → Bool → L → Type 0) (step : Step V) where
  part_no_matter : (e : EncoderState V) (o : OpenPart) (xs : List Finding) (l l' : L)
      → HearsEach hears step (record e { part = o }) xs l l' → HearsEach hears step e xs l l'
  part_no_matter e o [] l l' heard = heard
  part_no_matter e o (x ∷ xs) l l' (between, (event, tells, now), rest) =
      let next : after_finding step (record e { part = o }) x ≡ record (after_finding step e x) { part = o } =
      findings_open step e o (x ∷ []) in (
        between,
        (event, tells_any step e o x event tells, now),
        part_no_matter (after_finding step e x) o xs between l'
            (subst (λ d. HearsEach hears step d xs between l') next rest),
      )

  each_on : (e : EncoderState V) (xs ys : List Finding) (l l1 l2 : L) → HearsEach hears step e xs l l1
      → HearsEach hears step (after_findings step e xs) ys l1 l2 → HearsEach hears step e (xs ++ ys) l l2
  each_on e [] ys l l1 l2 first second = subst (λ (j : L). HearsEach hears step e ys j l2) first second
  each_on e (x ∷ xs) ys l l1 l2 (between, once, rest) second =
      (between, once, each_on (after_finding step e x) xs ys between l1 l2 rest second)

  pub hears_none : (e : EncoderState V) (bytes : List ℕ) (l : L) → found_beyond e.part bytes ≡ []
      → HearsFor hears step e bytes l l
  hears_none e bytes l none = subst (λ xs. HearsEach hears step e xs l l) (sym none) refl

  pub hears_nothing : (e : EncoderState V) (l : L) → HearsFor hears step e [] l l
  hears_nothing e l = hears_none e [] l (new_start_lem e.part []).nothing

  pub hears_on : (e e1 : EncoderState V) (s more : List ℕ) (l l1 l2 : L) → e1 ≡ fed step e s
      → HearsFor hears step e s l l1 → HearsFor hears step e1 more l1 l2 → HearsFor hears step e (s ++ more) l l2
  hears_on e e1 s more l l1 l2 state first second =
      let o : OpenPart = open_beyond e.part s in
      let xs : List Finding = found_beyond e.part s in
      let whole : found_beyond e.part (s ++ more) ≡ xs ++ found_beyond o more = (in_pieces_lem e.part s more).found in
      let e1_is : e1 ≡ record (after_findings step e xs) { part = o } = state ∙ findings_open step e o xs in
      let here : HearsEach hears step (record (after_findings step e xs) { part = o }) (found_beyond o more) l1 l2 =
      subst (λ d. HearsEach hears step d (found_beyond d.part more) l1 l2) e1_is second in
      subst (λ fs. HearsEach hears step e fs l l2) (sym whole)
      (each_on e xs (found_beyond o more) l l1 l2 first
      (part_no_matter (after_findings step e xs) o (found_beyond o more) l1 l2 here))

  -- ---- up to a place
  -- the first bytes of the second part, after the first part
  hears_up_to : (e e1 : EncoderState V) (s more : List ℕ) (n : ℕ) (l l1 l2 : L) → e1 ≡ fed step e s
      → HearsFor hears step e s l l1 → HearsFor hears step e1 (take n more) l1 l2
      → HearsFor hears step e (take (length s + n) (s ++ more)) l l2
  hears_up_to e e1 s more n l l1 l2 state first second =
      subst (λ x. HearsFor hears step e x l l2) (sym (take-append-add s more n))
      (hears_on e e1 s (take n more) l l1 l2 state first second)

  unsent_on : (e e1 : EncoderState V) (s sent more : List ℕ) (w start place : ℕ) (l l1 l2 : L)
      → AnswersAll step e e1 s sent → HearsFor hears step e s l l1 → HearsUnsent hears step e1 more w start place l1 l2
      → HearsUnsent hears step e (s ++ more) (length sent + w) (length s + start) (length s + place) l l2
  unsent_on e e1 s sent more w start place l l1 l2 all first second =
      let head : List ℕ = take (length s + start) (s ++ more) in
      let head_is : s ++ take start more ≡ head = sym (take-append-add s more start) in
      let at : fed step e1 (take start more) ≡ fed step e head =
      fed_on_is step e e1 s (take start more) all.state ∙ ap (fed step e) head_is in
      let part : drop start (take (place + 1) more)
      ≡ drop (length s + start) (take (length s + place + 1) (s ++ more)) =
      sym (ap (drop (length s + start)) (next_is s more place) ∙ drop-append-add s (take (place + 1) more) start) in
      let written : w - length (answers step e1 (take start more)) ≡ length sent + w - length (answers step e head) =
      omega (
        arith,
        ap (λ x. length (answers step e x)) (sym head_is)
            ∙ ap length (answers_on step e e1 s sent (take start more) all)
            ∙ length-append sent (answers step e1 (take start more)),
      ) in
      record {
        before = second.before;
        earlier = hears_up_to e e1 s more start l l1 second.before all.state first second.earlier;
        unsent = subst (λ n. HearsWithin hears step (fed step e head) (found_beyond (fed step e head).part
            (drop (length s + start) (take (length s + place + 1) (s ++ more)))) n second.before l2) written
            (subst (λ x. HearsWithin hears step (fed step e head) (found_beyond (fed step e head).part x)
            (w - length (answers step e1 (take start more))) second.before l2) part
            (subst (λ d. HearsWithin hears step d (found_beyond d.part (drop start (take (place + 1) more)))
            (w - length (answers step e1 (take start more))) second.before l2) at second.unsent));
      }

  pub until_on : (e e1 : EncoderState V) (s sent more : List ℕ) (start place bytes : ℕ) (l l1 l2 : L) (why : Stop)
      → AnswersAll step e e1 s sent → bytes ≡ length sent → HearsFor hears step e s l l1
      → HearsUntil hears step e1 more start place l1 l2 why
      → HearsUntil hears step e (s ++ more) (length s + start) (length s + place) l l2 (stopped_after bytes why)
  until_on e e1 s sent more start place bytes l l1 l2 (stop.Write w) all are first second =
      subst (λ b. HearsUnsent hears step e (s ++ more) (b + w) (length s + start) (length s + place) l l2) (sym are)
      (unsent_on e e1 s sent more w start place l l1 l2 all first second)
  until_on e e1 s sent more start place bytes l l1 l2 stop.State all are first second =
      hears_up_to e e1 s more start l l1 l2 all.state first second

  -- ---- a batch
  within_of : (e : EncoderState V) (xs : List Finding) (events : List (Option Event)) (written : ℕ) (l l' : L)
      → TellsEach step e xs events → HeardEach hears events written l l' → HearsWithin hears step e xs written l l'
  within_of e [] [] written l l' tells heard = heard
  within_of e [] (event ∷ events) written l l' tells heard = absurd tells
  within_of e (x ∷ xs) [] written l l' tells heard = absurd tells
  within_of e (x ∷ xs) (None ∷ events) written l l' tells heard = absurd tells
  within_of e (x ∷ xs) (Some event ∷ events) written l l' (tell, tells) (between, now, rest) =
      let is : length (bytes_sent (response_of event.answer)) ≡ length (bytes_sent (response_to step e x)) =
      ap (λ r. length (bytes_sent r)) (sym tell.answer) in (
        between,
        (event, tell, subst (λ n. hears l event (nat_le n written) between) is now),
        within_of (after_finding step e x) xs events (written - length (bytes_sent (response_to step e x))) between l'
            tells (subst (λ n. HeardEach hears events (written - n) between l') is rest),
      )

  all_of : (e : EncoderState V) (xs : List Finding) (written : ℕ) (l l' : L)
      → length (flat_map bytes_sent (responses step e xs)) ≤ written → HearsWithin hears step e xs written l l'
      → HearsEach hears step e xs l l'
  all_of e [] written l l' enough heard = heard
  all_of e (x ∷ xs) written l l' enough (between, (event, tells, now), rest) =
      let reply : List ℕ = bytes_sent (response_to step e x) in
      let more : List ℕ = flat_map bytes_sent (responses step (after_finding step e x) xs) in
      let long : length (reply ++ more) ≡ length reply + length more = length-append reply more in (
        between,
        (
          event,
          tells,
          subst (λ b. hears l event b between) (le-leb (length reply) written (omega (arith, long, enough)))
              now,
        ),
        all_of (after_finding step e x) xs (written - length reply) between l' (omega (arith, long, enough)) rest,
      )

  -- nobody listens, and that is as if all had been told
  nobody : (e : EncoderState V) (xs : List Finding) (written : ℕ) (l : L)
      → ((event : Event) (sent : Bool) → hears l event sent l) → HearsWithin hears step e xs written l l
  nobody e [] written l deaf = refl
  nobody e (x ∷ xs) written l deaf =
      let told = event_for step e x in
      let reply : ℕ = length (bytes_sent (response_to step e x)) in (
        l,
        (told.0, told.1, deaf told.0 (nat_le reply written)),
        nobody (after_finding step e x) xs (written - reply) l deaf,
      )

  -- what is told of a batch, whether somebody listens or not
  within_batch : (listens : Bool) (e : EncoderState V) (xs : List Finding) (events : List (Option Event)) (written : ℕ)
      (l l' : L) → (listens ≡ false → (event : Event) (sent : Bool) → hears l event sent l)
      → (listens ≡ true → TellsEach step e xs events) → (listens ≡ false → events ≡ [])
      → HeardEach hears events written l l' → HearsWithin hears step e xs written l l'
  within_batch true e xs events written l l' deaf tells silent heard =
      within_of e xs events written l l' (tells refl) heard
  within_batch false e xs events written l l' deaf tells silent heard =
      let same : l' ≡ l = subst (λ events. HeardEach hears events written l l') (silent refl) heard in
      subst (λ j. HearsWithin hears step e xs written l j) (sym same) (nobody e xs written l (deaf refl))

  pub batch_heard : (listens : Bool) (e : EncoderState V) (bytes : List ℕ) (events : List (Option Event))
      (replies : List ℕ) (l l' : L) → (listens ≡ false → (event : Event) (sent : Bool) → hears l event sent l)
      → (listens ≡ true → TellsEach step e (found_beyond e.part bytes)
      events) → (listens ≡ false → events ≡ []) → replies ≡ answers step e bytes → HeardEach hears events (length
      replies) l l' → HearsFor hears step e bytes l l'
  batch_heard listens e bytes events replies l l' deaf tells silent are heard =
      all_of e (found_beyond e.part bytes) (length replies) l l' (omega (arith, ap length are))
      (within_batch listens e (found_beyond e.part bytes) events (length replies) l l' deaf tells silent heard)

  pub batch_unsent : (listens : Bool) (e : EncoderState V) (piece : List ℕ) (used : ℕ) (events : List (Option Event))
      (w : ℕ) (l l' : L) → 0 < used → (listens ≡ false → (event : Event) (sent : Bool) → hears l event sent l)
      → (listens ≡ true → TellsEach step e (found_beyond e.part
      (take used piece)) events) → (listens ≡ false → events ≡ []) → HeardEach hears events w l l'
      → HearsUnsent hears step e piece w 0 (used - 1) l l'
  batch_unsent listens e piece used events w l l' some deaf tells silent heard =
      let place_is : used ≡ used - 1 + 1 = omega (arith, some) in
      let at : e ≡ fed step e [] = sym (fed_none step e) in
      let written : w ≡ w - length (answers step e []) =
      omega (arith, ap (λ rs. length (flat_map bytes_sent rs)) (responses_none step e)) in
      record {
        before = l;
        earlier = hears_nothing e l;
        unsent = subst (λ n. HearsWithin hears step (fed step e []) (found_beyond (fed step e []).part
            (take (used - 1 + 1) piece)) n l l') written
            (subst (λ d. HearsWithin hears step d (found_beyond d.part (take (used - 1 + 1) piece)) w l l') at
            (subst (λ n. HearsWithin hears step e (found_beyond e.part (take n piece)) w l l') place_is
            (within_batch listens e (found_beyond e.part (take used piece)) events w l l' deaf tells silent heard)));
      }
