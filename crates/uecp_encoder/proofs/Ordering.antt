-- Messages are applied in the order of their counters, and none of them twice.
use Rattle.std.proofs.Common.{◌≡◌, ℕ, zero, suc, ◌+◌, ◌%◌, ◌<◌, ◌≤◌, ◌==◌, Bool, true, false, cond, List, [], ◌∷◌, ◌++◌}
use Rattle.std.proofs.Common.{length, length-append, get_or, Option, Some, None, Ok, Err, refl, ◌∙◌, ap, sym, subst}
use Rattle.std.proofs.Common.{arith}
use Rattle.std.proofs.lemmas.Bool.{eqb-true, ne_eqb}
use Rattle.uecp_elements.specs.declared.code.Code.{Code}
use Rattle.reply_ring.specs.Ring.{kept_code, newest}
use Rattle.uecp_frame.specs.declared.frame.Frame.{Frame}
use Rattle.uecp_frame.specs.Address.{reaches}
use Rattle.uecp_frame.specs.Frame.{spelling}
use Rattle.uecp_encoder.specs.Target.{Step}
use Rattle.uecp_encoder.specs.State.{EncoderState, opening, next_after, raised, is_next, applied, numbered}
use Rattle.uecp_encoder.specs.State.{after_finding}
use Rattle.uecp_encoder.specs.Answering.{Response, Replied, NotForMe, Unnumbered, NotNext, Dropped, reply_of, replied}
use Rattle.uecp_encoder.specs.Answering.{response_to}
use Rattle.uecp_encoder.specs.Laws.{Happening, Finds, Becomes, after_happening, after_happenings, fresh_in, applied_in}
use Rattle.uecp_encoder.specs.Laws.{applied_among, counter_in, counters_applied, Follow, AppliesInOrder, AppliesFrom01}
use Rattle.uecp_encoder.specs.Laws.{IsNotApplied, AppliedOnce}
use Rattle.uecp_encoder.proofs.Repeating.{fresh_is}

-- These counters follow this one, and the last of them is this.
abbrev Leads : (last : Option ℕ) → List ℕ → (now : Option ℕ) → Type 0
Leads last [] now = last ≡ now
Leads last (counter ∷ later) now = (counter ≡ next_after last) × Leads (Some counter) later now

leads_on : (last mid now : Option ℕ) (xs ys : List ℕ) → Leads last xs mid → Leads mid ys now → Leads last (xs ++ ys) now
leads_on last mid now [] ys h more = subst (λ l. Leads l ys now) (sym h) more
leads_on last mid now (x ∷ xs) ys h more = (h.0, leads_on (Some x) mid now xs ys h.1 more)

leads_follow : (last now : Option ℕ) (xs : List ℕ) → Leads last xs now → Follow last xs
leads_follow last now [] h = tt
leads_follow last now (x ∷ xs) h = (h.0, leads_follow (Some x) now xs h.1)

-- how many counters there are where a message was applied, or none was
one_or_none : (r : Response) (counter : ℕ) → length (cond (fresh_in r == 1) (counter ∷ []) []) ≡ fresh_in r
one_or_none (Replied bytes true) counter = refl
one_or_none (Replied bytes false) counter = refl
one_or_none NotForMe counter = refl
one_or_none Unnumbered counter = refl
one_or_none NotNext counter = refl
one_or_none (Dropped fault) counter = refl

module _ {V : Type 0} (step : Step V) where
  -- a numbered frame whose counter is not kept, by whether it is the next
  new_leads : (e : EncoderState V) (f : Frame) (next : Bool) → is_next e.ring f.counter ≡ next →
      Leads (newest e.ring) (cond (fresh_in (cond next
      (Replied (spelling (reply_of e.address f.counter (step e.value f.message).1)) true) NotNext) == 1)
      (f.counter ∷ []) []) (newest (cond next (applied step e f) e).ring)
  new_leads e f true is = (eqb-true f.counter (next_after (newest e.ring)) is, refl)
  new_leads e f false is = refl

  -- a frame, by whether it reaches the encoder, whether it has counter 00, and what is kept for its counter
  frame_leads : (e : EncoderState V) (f : Frame) (r z : Bool) (k : Option Code) →
      Leads (newest e.ring) (cond (fresh_in (cond r (cond z Unnumbered (replied step e f k)) NotForMe) == 1)
      (f.counter ∷ []) [])
      (newest (cond r (cond z (record e { counts = record e.counts { unnumbered = raised e.counts.unnumbered } })
      (numbered step e f k)) (record e {
        counts = record e.counts { not_for_me = raised e.counts.not_for_me };
      })).ring)
  frame_leads e f true true k = refl
  frame_leads e f true false (Some c) = refl
  frame_leads e f true false None = new_leads e f (is_next e.ring f.counter) refl
  frame_leads e f false z k = refl

  happening_leads : (e : EncoderState V) (h : Happening V)
      → Leads (newest e.ring) (counter_in step e h) (newest (after_happening step e h).ring)
  happening_leads e (Finds (Ok f)) = frame_leads e f (reaches f.address e.address) (f.counter == 0)
      (kept_code e.ring f.counter)
  happening_leads e (Finds (Err fault)) = refl
  happening_leads e (Becomes value counts part) = refl

  happenings_lead : (e : EncoderState V) (hs : List (Happening V))
      → Leads (newest e.ring) (counters_applied step e hs) (newest (after_happenings step e hs).ring)
  happenings_lead e [] = refl
  happenings_lead e (h ∷ hs) =
      let e1 : EncoderState V = after_happening step e h in
      leads_on (newest e.ring) (newest e1.ring) (newest (after_happenings step e1 hs).ring) (counter_in step e h)
      (counters_applied step e1 hs) (happening_leads e h) (happenings_lead e1 hs)

  pub applies_in_order_lem : AppliesInOrder step
  applies_in_order_lem e hs = leads_follow (newest e.ring) (newest (after_happenings step e hs).ring)
      (counters_applied step e hs) (happenings_lead e hs)

  -- there are as many counters as messages were applied
  one_in : (e : EncoderState V) (h : Happening V) → length (counter_in step e h) ≡ applied_in step e h
  one_in e (Finds (Ok f)) = one_or_none (response_to step e (Ok f)) f.counter
  one_in e (Finds (Err fault)) = refl
  one_in e (Becomes value counts part) = refl

  all_in : (e : EncoderState V) (hs : List (Happening V))
      → length (counters_applied step e hs) ≡ applied_among step e hs
  all_in e [] = refl
  all_in e (h ∷ hs) =
      let later = all_in (after_happening step e h) hs in
      omega (
        arith,
        later,
        one_in e h,
        length-append (counter_in step e h)
            (counters_applied step (after_happening step e h) hs),
      )

-- counters that follow the one before number n are those of n and so on
place_in : (n : ℕ) (last : Option ℕ) (counters : List ℕ) (k : ℕ) → next_after last ≡ 1 + n % 255 → Follow last counters
    → k < length counters → get_or counters k 0 ≡ 1 + (n + k) % 255
place_in n last [] k is follow within = absurd (omega (arith, within))
place_in n last (counter ∷ later) zero is follow within =
    follow.0 ∙ is ∙ ap (λ m. 1 + m % 255) (let q : n ≡ n + 0 = omega arith in q)
place_in n last (counter ∷ later) (suc k) is follow within =
    place_in (n + 1) (Some counter) later k (let now = follow.0 in omega (arith, now, is)) follow.1
    (omega (arith, within))
    ∙ ap (λ m. 1 + m % 255) (let q : n + 1 + k ≡ n + suc k = omega arith in q)

pub applies_from_01_lem : {V : Type 0} (step : Step V) → AppliesFrom01 step
applies_from_01_lem step address value hs k within =
    place_in 0 None (counters_applied step (opening address value) hs) k refl
    (applies_in_order_lem step (opening address value) hs) within
    ∙ ap (λ m. 1 + m % 255) (let q : 0 + k ≡ k = omega arith in q)

-- ---- No message is applied twice.

-- the counter n messages after this one
abbrev counter_at : (first n : ℕ) → ℕ
counter_at first n = 1 + (first + 254 + n) % 255

leads_far : (first n : ℕ) (xs : List ℕ) (last now : Option ℕ) → last ≡ Some (counter_at first n) → Leads last xs now
    → now ≡ Some (counter_at first (n + length xs))
leads_far first n [] last now is h = sym h ∙ is ∙ ap (λ m. Some (counter_at first m))
    (let q : n ≡ n + 0 = omega arith in q)
leads_far first n (x ∷ xs) last now is h =
    let this : x ≡ 1 + counter_at first n % 255 = h.0 ∙ ap next_after is in
    leads_far first (n + 1) xs (Some x) now (ap (λ c. Some c)
    (let q : x ≡ counter_at first (n + 1) = omega (arith, this) in q)) h.1
    ∙ ap (λ m. Some (counter_at first m)) (let q : n + 1 + length xs ≡ n + suc (length xs) = omega arith in q)

next_in_range : (last : Option ℕ) → (1 ≤ next_after last) × (next_after last ≤ 255)
next_in_range None = (omega arith, omega arith)
next_in_range (Some last) = (omega arith, omega arith)

module _ {V : Type 0} (step : Step V) where
  -- a frame that is not the next is not applied
  not_applied : (e : EncoderState V) (f : Frame) → is_next e.ring f.counter ≡ false → IsNotApplied step e f
  not_applied e f other = go (reaches f.address e.address) (f.counter == 0) (kept_code e.ring f.counter) refl refl refl
    where
      go : (r z : Bool) (k : Option Code) → reaches f.address e.address ≡ r → (f.counter == 0) ≡ z
          → kept_code e.ring f.counter ≡ k → IsNotApplied step e f
      go true true k a b c = record { none = rw (a, b); value = rw (a, b); ring = rw (a, b) }
      go true false (Some d) a b c = record { none = rw (a, b, c); value = rw (a, b, c); ring = rw (a, b, c) }
      go true false None a b c = record {
        none = rw (a, b, c, other);
        value = rw (a, b, c, other);
        ring = rw (a, b, c, other);
      }
      go false z k a b c = record { none = rw a; value = rw a; ring = rw a }

  pub applied_once_lem : AppliedOnce step
  applied_once_lem e f bytes between h few =
      let fresh = fresh_is step e f bytes h in
      let e1 : EncoderState V = after_finding step e (Ok f) in
      let e2 : EncoderState V = after_happenings step e1 between in
      let d : ℕ = applied_among step e1 between in
      let turn : f.counter ≡ next_after (newest e.ring) = eqb-true f.counter (next_after (newest e.ring)) fresh.next in
      let range = next_in_range (newest e.ring) in
      let here : newest e1.ring ≡ Some f.counter = rw (fresh.reached, fresh.numbered_, fresh.unknown, fresh.next) in
      let first : Some f.counter ≡ Some (counter_at f.counter 0) =
      ap (λ c. Some c) (let q : f.counter ≡ counter_at f.counter 0 = omega (arith, turn, range.0, range.1) in q) in
      let last : newest e2.ring ≡ Some (counter_at f.counter (0 + length (counters_applied step e1 between))) =
      leads_far f.counter 0 (counters_applied step e1 between) (newest e1.ring) (newest e2.ring) (here ∙ first)
      (happenings_lead step e1 between) in
      let many = all_in step e1 between in
      let next : next_after (newest e2.ring) ≡ 1 + counter_at f.counter (0 + length (counters_applied step e1 between))
      % 255 = ap next_after last in
      not_applied e2 f (ne_eqb f.counter (next_after (newest e2.ring))
      (λ same. omega (arith, same, next, many, few, turn, range.0, range.1)))
