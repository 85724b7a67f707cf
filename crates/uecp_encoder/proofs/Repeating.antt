-- A retry acts once: where the pair of an applied message is in the ring while others are kept.
use Rattle.std.proofs.Common.{◌≡◌, ℕ, zero, suc, ◌+◌, ◌≤◌, ◌==◌, Bool, true, false, cond, List, [], ◌∷◌, take, Option}
use Rattle.std.proofs.Common.{Some, None, Ok, Err, refl, ◌∙◌, ap, sym, subst, arith, inl, inr}
use Rattle.std.proofs.lemmas.Bool.{cases_Bool, eqb-true, eq-eqb}
use Rattle.std.proofs.lemmas.List.{take-take}
use Rattle.uecp_elements.specs.declared.code.Code.{Code}
use Rattle.reply_ring.specs.Ring.{kept_code, keep}
use Rattle.uecp_frame.specs.declared.frame.Frame.{Frame}
use Rattle.uecp_frame.specs.Address.{reaches}
use Rattle.uecp_frame.specs.Frame.{spelling}
use Rattle.uecp_frame.specs.Findings.{Finding}
use Rattle.uecp_encoder.specs.Target.{Step}
use Rattle.uecp_encoder.specs.State.{EncoderState, raised, is_next, applied, numbered, after_finding}
use Rattle.uecp_encoder.specs.Answering.{Replied, NotForMe, Unnumbered, NotNext, reply_of, replied, response_to}
use Rattle.uecp_encoder.specs.Laws.{Happening, Finds, Becomes, after_happening, after_happenings, fresh_in, applied_in}
use Rattle.uecp_encoder.specs.Laws.{applied_among, IsRepeat, RetryActsOnce}

-- what the first pairs have, the whole ring has
kept_in_front : (n : ℕ) (ring : List (ℕ × Code)) (counter : ℕ) (code : Code)
    → kept_code (take n ring) counter ≡ Some code → kept_code ring counter ≡ Some code
kept_in_front zero ring counter code h = absurd (cc)
kept_in_front (suc n) [] counter code h = absurd (cc)
kept_in_front (suc n) (pair ∷ older) counter code h =
    elim (cases_Bool (pair.0 == counter)) [
      | inl same ↦ rw same (let k : Some pair.1 ≡ Some code = rw same at h in k)
      | inr other ↦ rw other (kept_in_front n older counter code
          (let k : kept_code (take n older) counter ≡ Some code = rw other at h in k))
    ]

-- the pair of a counter is among the first n + 1
pub record IsKept {V : Type 0} (address counter : ℕ) (code : Code) (n : ℕ) (e : EncoderState V) : Type 0 where
  pub address_is : e.address ≡ address
  pub pair : kept_code (take (suc n) e.ring) counter ≡ Some code

-- one more pair moves it one back
kept_behind : (ring : List (ℕ × Code)) (n counter other : ℕ) (code d : Code) → suc n ≤ 126 → kept_code ring other ≡ None
    →
    kept_code (take (suc n) ring) counter ≡ Some code
    → kept_code (take (suc (suc n)) (keep ring other d)) counter ≡ Some code
kept_behind ring n counter other code d small fresh h =
    elim (cases_Bool (other == counter)) [
      | inl same ↦
          (let e = eqb-true other counter same in
          let k : None ≡ Some code = sym fresh ∙ ap (kept_code ring) e ∙ kept_in_front (suc n) ring counter code h in
          absurd (cc))
      | inr apart ↦ rw apart (ap (λ r. kept_code r counter) (take-take (suc n) 126 ring small) ∙ h)
    ]

module _ {V : Type 0} (step : Step V) (address counter : ℕ) (code : Code) where
  -- a numbered frame whose counter is not kept, by whether it is the next
  new_keeps : (e : EncoderState V) (n : ℕ) (g : Frame) (next : Bool) → kept_code e.ring g.counter ≡ None
      → IsKept address counter code n e →
      n + fresh_in (cond next (Replied (spelling (reply_of e.address g.counter (step e.value g.message).1)) true)
      NotNext) ≤ 126 →
      IsKept address counter code (n + fresh_in (cond next
      (Replied (spelling (reply_of e.address g.counter (step e.value g.message).1)) true) NotNext))
      (cond next (applied step e g) e)
  new_keeps e n g true is kept small = record {
    address_is = kept.address_is;
    pair = subst (λ (m : ℕ). kept_code (take (suc m) (keep e.ring g.counter (step e.value g.message).1)) counter
        ≡ Some code) (let q : suc n ≡ n + 1 = omega arith in q)
        (kept_behind e.ring n counter g.counter code (step e.value g.message).1 (omega arith) is kept.pair);
  }
  new_keeps e n g false is kept small = record {
    address_is = kept.address_is;
    pair = subst (λ (m : ℕ). kept_code (take (suc m) e.ring) counter ≡ Some code)
        (let q : n ≡ n + 0 = omega arith in q) kept.pair;
  }

  -- a frame, by whether it reaches the encoder, whether it has counter 00, and what is kept for its counter
  frame_keeps : (e : EncoderState V) (n : ℕ) (g : Frame) (r z : Bool) (k : Option Code) → kept_code e.ring g.counter ≡ k
      → IsKept address counter code n e →
      n + fresh_in (cond r (cond z Unnumbered (replied step e g k)) NotForMe) ≤ 126 →
      IsKept address counter code (n + fresh_in (cond r (cond z Unnumbered (replied step e g k)) NotForMe))
      (cond r (cond z (record e { counts = record e.counts { unnumbered = raised e.counts.unnumbered } })
      (numbered step e g k)) (record e { counts = record e.counts { not_for_me = raised e.counts.not_for_me } }))
  frame_keeps e n g true true k is kept small = record {
    address_is = kept.address_is;
    pair = subst (λ (m : ℕ). kept_code (take (suc m) e.ring) counter ≡ Some code)
        (let q : n ≡ n + 0 = omega arith in q) kept.pair;
  }
  frame_keeps e n g true false (Some c) is kept small =
      record {
        address_is = kept.address_is;
        pair = subst
            (λ (m : ℕ). kept_code (take (suc m) e.ring) counter ≡ Some code) (let q : n ≡ n + 0 = omega arith in q)
            kept.pair;
      }
  frame_keeps e n g true false None is kept small = new_keeps e n g (is_next e.ring g.counter) is kept small
  frame_keeps e n g false z k is kept small = record {
    address_is = kept.address_is;
    pair = subst (λ (m : ℕ). kept_code (take (suc m) e.ring) counter ≡ Some code)
        (let q : n ≡ n + 0 = omega arith in q) kept.pair;
  }

  finding_keeps : (e : EncoderState V) (n : ℕ) (x : Finding) → IsKept address counter code n e
      → n + fresh_in (response_to step e x) ≤ 126 →
      IsKept address counter code (n + fresh_in (response_to step e x)) (after_finding step e x)
  finding_keeps e n (Err fault) kept small = record {
    address_is = kept.address_is;
    pair = subst (λ (m : ℕ). kept_code (take (suc m) e.ring) counter ≡ Some code)
        (let q : n ≡ n + 0 = omega arith in q) kept.pair;
  }
  finding_keeps e n (Ok g) kept small = frame_keeps e n g (reaches g.address e.address) (g.counter == 0)
      (kept_code e.ring g.counter) refl kept small

  happening_keeps : (e : EncoderState V) (n : ℕ) (h : Happening V) → IsKept address counter code n e
      → n + applied_in step e h ≤ 126 →
      IsKept address counter code (n + applied_in step e h) (after_happening step e h)
  happening_keeps e n (Finds x) kept small = finding_keeps e n x kept small
  happening_keeps e n (Becomes value counts part) kept small =
      record {
        address_is = kept.address_is;
        pair = subst
            (λ (m : ℕ). kept_code (take (suc m) e.ring) counter ≡ Some code) (let q : n ≡ n + 0 = omega arith in q)
            kept.pair;
      }

  pub happenings_keep : (e : EncoderState V) (n : ℕ) (between : List (Happening V)) → IsKept address counter code n e
      → n + applied_among step e between ≤ 126 →
      (m : ℕ) × IsKept address counter code m (after_happenings step e between)
  happenings_keep e n [] kept small = (n, kept)
  happenings_keep e n (h ∷ between) kept small =
      happenings_keep (after_happening step e h) (n + applied_in step e h) between
      (happening_keeps e n h kept (omega arith)) (omega arith)

-- what is known of a frame that is applied
pub record Fresh {V : Type 0} (step : Step V) (e : EncoderState V) (f : Frame) (bytes : List ℕ) : Type 0 where
  pub reached : reaches f.address e.address ≡ true
  pub numbered_ : (f.counter == 0) ≡ false
  pub unknown : kept_code e.ring f.counter ≡ None
  pub next : is_next e.ring f.counter ≡ true
  pub said : spelling (reply_of e.address f.counter (step e.value f.message).1) ≡ bytes

pub fresh_is : {V : Type 0} (step : Step V) (e : EncoderState V) (f : Frame) (bytes : List ℕ)
    → response_to step e (Ok f) ≡ Replied bytes true → Fresh step e f bytes
fresh_is step e f bytes h = go (reaches f.address e.address) (f.counter == 0) (kept_code e.ring f.counter) refl refl
    refl h
  where
    go : (r z : Bool) (k : Option Code) → reaches f.address e.address ≡ r → (f.counter == 0) ≡ z
        → kept_code e.ring f.counter ≡ k →
        cond r (cond z Unnumbered (replied step e f k)) NotForMe ≡ Replied bytes true → Fresh step e f bytes
    go true true k a b c h = absurd (cc)
    go true false (Some d) a b c h = absurd (cc)
    go true false None a b c h = by (is_next e.ring f.counter) refl h
      where
        by : (n : Bool) → is_next e.ring f.counter ≡ n → cond n
            (Replied (spelling (reply_of e.address f.counter (step e.value f.message).1)) true) NotNext
            ≡ Replied bytes true → Fresh step e f bytes
        by true d h = record { reached = a; numbered_ = b; unknown = c; next = d; said = cc }
        by false d h = absurd (cc)
    go false z k a b c h = absurd (cc)

-- a frame whose counter is kept
repeated : {V : Type 0} (step : Step V) (e : EncoderState V) (f : Frame) (code : Code)
    → reaches f.address e.address ≡ true → (f.counter == 0) ≡ false →
    kept_code e.ring f.counter ≡ Some code → IsRepeat step e f (spelling (reply_of e.address f.counter code))
repeated step e f code reached some known = record {
  reply = rw (reached, some, known);
  value = rw (reached, some, known);
  ring = rw (reached, some, known);
}

kept_first : {V : Type 0} (step : Step V) (e : EncoderState V) (f : Frame) (bytes : List ℕ) → Fresh step e f bytes →
    IsKept e.address f.counter (step e.value f.message).1 0 (after_finding step e (Ok f))
kept_first step e f bytes fresh =
    rw (fresh.reached, fresh.numbered_, fresh.unknown, fresh.next) (record { address_is = refl; pair = first })
  where
    first : kept_code (take 1 (keep e.ring f.counter (step e.value f.message).1)) f.counter
        ≡ Some (step e.value f.message).1
    first = rw (eq-eqb f.counter f.counter refl)

pub retry_acts_once_lem : {V : Type 0} (step : Step V) → RetryActsOnce step
retry_acts_once_lem step e f bytes between h few =
    let fresh = fresh_is step e f bytes h in
    let code : Code = (step e.value f.message).1 in
    let e1 : EncoderState _ = after_finding step e (Ok f) in
    let e2 : EncoderState _ = after_happenings step e1 between in
    let last = happenings_keep step e.address f.counter code e1 0 between (kept_first step e f bytes fresh)
    (omega (arith, few)) in
    let known : kept_code e2.ring f.counter ≡ Some code =
    kept_in_front (suc last.0) e2.ring f.counter code last.1.pair in
    let reached : reaches f.address e2.address ≡ true = ap (reaches f.address) last.1.address_is ∙ fresh.reached in
    let same : spelling (reply_of e2.address f.counter code) ≡ bytes =
    ap (λ (a : ℕ). spelling (reply_of a f.counter code)) last.1.address_is ∙ fresh.said in
    subst (IsRepeat step e2 f) same (repeated step e2 f code reached fresh.numbered_ known)
