-- The law: what every event keeps, over a list of events.
use Rattle.std.proofs.Common.{◌≡◌, ℕ, true, List, [], ◌∷◌, ◌++◌, length, append-nil, append_assoc, map, refl, ap, sym}
use Rattle.std.proofs.Common.{subst, ◌∙◌, arith, inl, inr}
use Rattle.std.specs.Prelude.{is_none}
use Rattle.std.specs.List.{AllByRecursion}
use Rattle.std.proofs.lemmas.Bool.{cases_Bool, le-ltb, false≢true}
use Rattle.std.proofs.lemmas.List.{take_all}
use Rattle.uecp_frame.specs.Findings.{Closed}
use Rattle.uecp_encoder.specs.Target.{Step, Taken}
use Rattle.uecp_encoder.specs.State.{EncoderState, opening}
use Rattle.uecp_link.specs.Counters.{counter_of}
use Rattle.uecp_link.specs.Server.{ServerState, idle_at, waiting_among, waiting}
use Rattle.uecp_link.specs.Once.{Event, Once, at_first, message_at, missing, refusal_of, after, answer_of}
use Rattle.uecp_link.specs.History.{Act, act_of, history}
use Rattle.uecp_link.specs.Law.{World, encoder_after, server_after, run, start_from, start, Fits, Numbers, Law, LawFrom}
use Rattle.uecp_link.specs.Kept.{IsReady, Kept, Hears}
use Rattle.uecp_link.proofs.Ready.{ready_few}
use Rattle.uecp_link.proofs.HeldNumbers.{waiting-held, missing_is}
use Rattle.uecp_link.proofs.Steps.{keeps, hears_after, applied_after, sent_le, ring_answers, recent_le, quiet_none}
use Rattle.uecp_link.proofs.Least.{next_number}
use Rattle.uecp_link.proofs.Wire.{left_none}
use Rattle.uecp_link.proofs.Folding.{Folded, folded}
use Rattle.uecp_link.proofs.Freshness.{fresh_is}

-- what holds of a world with its history, by how many are applied and how many acknowledged
pub record Lawful {V : Type 0} (step : Step V) (taken : Taken V) (address : ℕ) (opening : V) (w : World V)
    (acts : List Act) : Type 0 where
  pub p : ℕ
  pub q : ℕ
  pub hears : Hears w.encoder w.server w.once
  pub kept : Kept address w.encoder w.server w.once p q
  pub folded_is : Folded step taken opening w.once p acts

module _ {V : Type 0} (step : Step V) (taken : Taken V) (address : ℕ) (opening : V) where
  pub lawful_after : (w : World V) (acts : List Act) (event : Event) → Fits event
      → is_none (refusal_of w.once event) ≡ true → Lawful step taken address opening w acts
      → Lawful step taken address opening (record {
        encoder = encoder_after step taken address w.once w.encoder event;
        server = server_after address w.once w.server event;
        once = after step taken w.once event;
      })
      (acts ++ act_of event (answer_of step taken w.once event))
  lawful_after w acts event fit open_ h =
      let kept = keeps step taken address w.encoder w.server w.once h.p h.q event fit open_ h.hears h.kept in
      record {
        p = applied_after w.once event h.p;
        q = kept.0;
        kept = kept.1;
        hears = hears_after step taken address w.encoder w.server w.once h.p h.q event open_ h.kept h.hears;
        folded_is = folded step taken opening w.once h.p acts event
            (λ k. next_number w.once.codes h.p (length w.once.sent) k h.kept.applied h.kept.p_le) h.kept.p_le
            h.folded_is;
      }

  -- the history grows by what each event brings that is not refused
  pub lawful_run : (w : World V) (acts : List Act) (events : List Event) → AllByRecursion Fits events
      → Lawful step taken address opening w acts
      → Lawful step taken address opening (run step taken address w events) (acts ++ history step taken w.once events)
  lawful_run w acts [] fit h = subst (λ (x : List Act). Lawful step taken address opening w x) (sym (append-nil acts)) h
  lawful_run w acts (event ∷ events) fit h =
      elim (cases_Bool (is_none (refusal_of w.once event))) [
        | inl open_ ↦
            let w1 : World V = record {
              encoder = encoder_after step taken address w.once w.encoder event;
              server = server_after address w.once w.server event;
              once = after step taken w.once event;
            } in
            let brought : List Act = act_of event (answer_of step taken w.once event) in
            rw open_ (subst (λ (x : List Act). Lawful step taken address opening (run step taken address w1 events) x)
            (append_assoc acts brought (history step taken w1.once events))
            (lawful_run w1 (acts ++ brought) events fit.1 (lawful_after w acts event fit.0 open_ h)))
        | inr shut ↦ rw shut (lawful_run w acts events fit.1 h)
      ]

pub ready_at_first : IsReady []
ready_at_first = inl refl

-- an encoder that is ready and a new server, at first
pub kept_at_first : {V : Type 0} (e : EncoderState V) → IsReady e.ring
    → Kept e.address e (idle_at e.address) (at_first e.value) 0 0
kept_at_first e ready = record {
  base = e.ring;
  ready = ready;
  encoder = record { address = refl; value = refl; ring = sym (take_all 127 e.ring (ready_few e.ring ready)) };
  count = 0;
  server = record { address = refl; last = refl; held = refl };
  count_is = omega arith;
  few = omega arith;
  below = λ k l. absurd (omega arith);
  oldest = λ some. absurd (omega arith);
  applied = λ k. sym (le-ltb k 0 (omega arith));
  within = λ k acked. absurd (false≢true acked);
  p_le = omega arith;
  q_le = omega arith;
  fits = λ k. omega arith;
}

-- and with nothing open
pub lawful_from : {V : Type 0} (step : Step V) (taken : Taken V) (e : EncoderState V) → IsReady e.ring → e.part ≡ Closed
    → Lawful step taken e.address e.value (start_from e) []
lawful_from step taken e ready shut = record {
  p = 0;
  q = 0;
  kept = kept_at_first e ready;
  hears = record {
    encoder = shut ∙ sym left_none;
    server = sym left_none;
    encoder_quiet = quiet_none;
    server_quiet = quiet_none;
  };
  folded_is = record { order = refl; value = refl; codes = λ k. refl };
}

pub lawful_start : {V : Type 0} (step : Step V) (taken : Taken V) (address : ℕ) (value : V)
    → Lawful step taken address value (start address value) []
lawful_start step taken address value = lawful_from step taken (opening address value) ready_at_first refl

-- What the facts say of the numbers and of the values.

pub waiting_is : {V : Type 0} (address : ℕ) (e : EncoderState V) (s : ServerState) (o : Once V) (p q : ℕ)
    → Kept address e s o p q
    → waiting s ≡ map (λ k. (counter_of k, message_at o.sent k)) (missing o.acknowledged (length o.sent))
waiting_is address e s o p q kept =
    ap waiting_among kept.server.held ∙ waiting-held o.sent o.acknowledged q kept.count
    ∙ ap (map (λ k. (counter_of k, message_at o.sent k)))
    (sym (missing_is o.acknowledged q kept.count (length o.sent) kept.count_is kept.below))

pub numbers_from : {V : Type 0} (step : Step V) (address : ℕ) (w : World V) (p q : ℕ)
    → Kept address w.encoder w.server w.once p q → Numbers step address w p
numbers_from step address w p q kept =
    let n = sent_le address w.encoder w.server w.once p q kept in
    record {
      applied = kept.applied;
      all_but_eight = (kept.p_le, omega (arith, n.1, kept.q_le));
      acknowledged = kept.within;
      outstanding = waiting_is address w.encoder w.server w.once p q kept;
      fresh = λ k below near. fresh_is step address w.encoder w.server w.once p q kept k below
          (recent_le (length w.once.sent) k near);
      replies = λ k below near. ring_answers address w.encoder w.server w.once p q kept k below
          (recent_le (length w.once.sent) k near);
    }

pub law_from : {V : Type 0} (step : Step V) (taken : Taken V) (e : EncoderState V) → IsReady e.ring → e.part ≡ Closed
    → (events : List Event) → AllByRecursion Fits events → LawFrom step taken e events
law_from step taken e ready shut events fit =
    let h = lawful_run step taken e.address e.value (start_from e) [] events fit
    (lawful_from step taken e ready shut) in (
      h.p,
      numbers_from step e.address (run step taken e.address (start_from e) events) h.p h.q h.kept,
      record {
        order = h.folded_is.order;
        target = h.kept.encoder.value ∙ h.folded_is.value;
        value = h.folded_is.value;
        codes = h.folded_is.codes;
      },
    )

pub law : {V : Type 0} (step : Step V) (taken : Taken V) (address : ℕ) → (opening : V) (events : List Event)
    → AllByRecursion Fits events → Law step taken address opening events
law step taken address value events fit = law_from step taken (opening address value) ready_at_first refl events fit
