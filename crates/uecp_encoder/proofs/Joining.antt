-- A pass of empty messages brings an encoder to counter FF: of p messages since it was new, the ring has the last 127
-- counters, and a reply to 81 or FF says that it was among them at its turn.
use Rattle.std.proofs.Common.{◌≡◌, ℕ, zero, suc, ◌+◌, ◌-◌, ◌%◌, ◌<◌, ◌≤◌, ◌==◌, ◌&&◌, not, Bool, true, false, List, []}
use Rattle.std.proofs.Common.{◌∷◌, ◌++◌, map, take, Contains, slice_index_or, Option, Some, None, Ok, Err, refl, ◌∙◌}
use Rattle.std.proofs.Common.{ap, sym, subst, arith, inl, inr, ◌⊎◌}
use Rattle.std.proofs.lemmas.Bool.{cases_Bool, cases_eq, eqb-true, eq-eqb}
use Rattle.std.proofs.lemmas.List.{take-map}
use Rattle.std.proofs.lemmas.List.Elements.{Contains-append_cases, Contains-append_left, Contains-append_right}
use Rattle.uecp_elements.specs.declared.code.Code.{Code}
use Rattle.reply_ring.specs.Ring.{kept_code, newest, keep}
use Rattle.uecp_frame.specs.declared.frame.Frame.{Frame}
use Rattle.uecp_frame.specs.Address.{reaches}
use Rattle.uecp_encoder.specs.Target.{Step}
use Rattle.uecp_encoder.specs.State.{EncoderState, opening, next_after, is_next, after_finding}
use Rattle.uecp_encoder.specs.Laws.{Happening, Finds, Becomes, after_happening, after_happenings}
use Rattle.uecp_encoder.specs.Joining.{is_message_to, messages_to, IsPass, replied_in, counters_replied, value_without}
use Rattle.uecp_encoder.specs.Joining.{HasJoined, Joins, rising, WholePassIsReplied}

-- ---- The counters of a ring.

abbrev pub counters : List (ℕ × Code) → List ℕ
counters ring = map (λ pair. pair.0) ring

-- the counters of the last n of p messages, the newest first
abbrev pub back : (p n : ℕ) → List ℕ
back zero n = []
back (suc p) zero = []
back (suc p) (suc n) = (1 + p % 255) ∷ back p n

take-back : (p n : ℕ) → take n (back p (suc n)) ≡ back p n
take-back zero zero = refl
take-back zero (suc n) = refl
take-back (suc p) zero = refl
take-back (suc p) (suc n) = ap (λ later. (1 + p % 255) ∷ later) (take-back p n)

-- after rounds of the counters they are the same
back-same : (p r n : ℕ) → p % 255 ≡ r % 255 → n ≤ p → n ≤ r → back p n ≡ back r n
back-same zero zero n same a b = refl
back-same zero (suc r) zero same a b = refl
back-same zero (suc r) (suc n) same a b = absurd (omega arith)
back-same (suc p) zero zero same a b = refl
back-same (suc p) zero (suc n) same a b = absurd (omega arith)
back-same (suc p) (suc r) zero same a b = refl
back-same (suc p) (suc r) (suc n) same a b =
    let head : p % 255 ≡ r % 255 = omega arith in
    ap (λ m. (1 + m) ∷ back p n) head ∙ ap (λ later. (1 + r % 255) ∷ later)
    (back-same p r n head (omega arith) (omega arith))

-- of p messages, one of the last 127 had the counter
abbrev IsIn : (p counter : ℕ) → Type 0
IsIn p counter = (q : ℕ) × (q < p) × (p ≤ q + 127) × (counter ≡ 1 + q % 255)

kept_is_back : (ring : List (ℕ × Code)) (p n counter : ℕ) (code : Code) → counters ring ≡ back p n
    → kept_code ring counter ≡ Some code →
    (q : ℕ) × (q < p) × (p ≤ q + n) × (counter ≡ 1 + q % 255)
kept_is_back [] p n counter code is h = absurd (cc)
kept_is_back (pair ∷ older) zero n counter code is h = absurd (cc)
kept_is_back (pair ∷ older) (suc p) zero counter code is h = absurd (cc)
kept_is_back (pair ∷ older) (suc p) (suc n) counter code is h =
    let head : pair.0 ≡ 1 + p % 255 = cc in
    let tail : counters older ≡ back p n = cc in
    elim (cases_Bool (pair.0 == counter)) [
      | inl same ↦ (let e = eqb-true pair.0 counter same in (p, omega arith, omega arith, omega (arith, e, head)))
      | inr other ↦
          (let r = kept_is_back older p n counter code tail
          (let k : kept_code older counter ≡ Some code = rw other at h in k) in
          let a = r.1 in
          let b = r.2 in
          (r.0, omega (arith, a), omega (arith, b), r.3))
    ]

back_is_kept : (ring : List (ℕ × Code)) (p n q : ℕ) → counters ring ≡ back p n → q < p → p ≤ q + n
    → kept_code ring (1 + q % 255) ≡ None → ⊥
back_is_kept [] zero n q is below late h = omega arith
back_is_kept [] (suc p) zero q is below late h = omega arith
back_is_kept [] (suc p) (suc n) q is below late h = cc
back_is_kept (pair ∷ older) zero n q is below late h = omega arith
back_is_kept (pair ∷ older) (suc p) zero q is below late h = omega arith
back_is_kept (pair ∷ older) (suc p) (suc n) q is below late h =
    let head : pair.0 ≡ 1 + p % 255 = cc in
    let tail : counters older ≡ back p n = cc in
    elim (cases_eq p q) [
      | inl same ↦ (let e : (pair.0 == 1 + q % 255) ≡ true =
          eq-eqb pair.0 (1 + q % 255) (head ∙ ap (λ m. 1 + m % 255) same) in
          let k : Some pair.1 ≡ None = rw e at h in cc)
      | inr apart ↦
          elim (cases_Bool (pair.0 == 1 + q % 255)) [
            | inl match_ ↦ (let k : Some pair.1 ≡ None = rw match_ at h in cc)
            | inr apart_too ↦ back_is_kept older p n q tail (let a = apart in omega arith) (omega arith)
                (rw apart_too at h)
          ]
    ]

next_is_back : (ring : List (ℕ × Code)) (p : ℕ) → counters ring ≡ back p 127 → next_after (newest ring) ≡ 1 + p % 255
next_is_back [] zero is = omega arith
next_is_back [] (suc p) is = absurd (cc)
next_is_back (pair ∷ older) zero is = absurd (cc)
next_is_back (pair ∷ older) (suc p) is = let head : pair.0 ≡ 1 + p % 255 = cc in omega (arith, head)

keep_is_back : (ring : List (ℕ × Code)) (p counter : ℕ) (code : Code) → counters ring ≡ back p 127
    → counter ≡ 1 + p % 255 → counters (keep ring counter code) ≡ back (suc p) 127
keep_is_back ring p counter code is next =
    ap (λ later. counter ∷ later) (sym (take-map (λ (pair : ℕ × Code). pair.0) 126 ring) ∙ ap (take 126) is
    ∙ take-back p 126)
    ∙ ap (λ c. c ∷ back p 126) next

one-of : (x c : ℕ) → Contains (x ∷ []) c → c ≡ x
one-of x c h = go h.0 h.1 h.2
  where
    go : (k : ℕ) → k < 1 → slice_index_or (x ∷ []) k c ≡ c → c ≡ x
    go zero within is = sym is
    go (suc k) within is = absurd (omega arith)

none-of : (c : ℕ) → Contains {X = ℕ} [] c → ⊥
none-of c h = let within = h.1 in omega (arith, within)

-- ---- One happening.

-- What a frame that is no message leaves.
record IsQuiet {V : Type 0} (step : Step V) (e : EncoderState V) (f : Frame) : Type 0 where
  pub address : (after_finding step e (Ok f)).address ≡ e.address
  pub value : (after_finding step e (Ok f)).value ≡ e.value
  pub ring : (after_finding step e (Ok f)).ring ≡ e.ring
  pub none : replied_in step e (Finds (Ok f)) ≡ []

-- What a frame does after p messages.
record IsTaken {V : Type 0} (step : Step V) (e : EncoderState V) (f : Frame) (p : ℕ) : Type 0 where
  pub address : (after_finding step e (Ok f)).address ≡ e.address
  pub value : ((v : V) → (step v f.message).0 ≡ v) → (after_finding step e (Ok f)).value ≡ e.value
  pub now : ℕ
  pub ring : counters (after_finding step e (Ok f)).ring ≡ back now 127
  pub moved : (now ≡ p) ⊎ ((now ≡ suc p) × (f.counter ≡ 1 + p % 255))
  pub replied : (c : ℕ) → Contains (replied_in step e (Finds (Ok f))) c → (c ≡ f.counter) × IsIn now c
  -- it is applied where it is due, and replied to where it was among the last ones or is due
  pub due : f.counter ≡ 1 + p % 255 → now ≡ suc p
  pub answered : IsIn p f.counter ⊎ (f.counter ≡ 1 + p % 255) → Contains (replied_in step e (Finds (Ok f))) f.counter

-- the next counter is not among the last ones
not_in : (p : ℕ) → IsIn p (1 + p % 255) → ⊥
not_in p (q, below, late, is) = omega arith

self-of : (c : ℕ) → Contains (c ∷ []) c
self-of c = (0, omega arith, refl)

module _ {V : Type 0} (step : Step V) where
  quiet : (e : EncoderState V) (f : Frame) → is_message_to e.address f ≡ false → IsQuiet step e f
  quiet e f h = go (reaches f.address e.address) (f.counter == 0) refl refl h
    where
      go : (r z : Bool) → reaches f.address e.address ≡ r → (f.counter == 0) ≡ z → (r && not z) ≡ false
          → IsQuiet step e f
      go true true a b h = record { address = rw (a, b); value = rw (a, b); ring = rw (a, b); none = rw (a, b) }
      go true false a b h = absurd (cc)
      go false z a b h = record { address = rw a; value = rw a; ring = rw a; none = rw a }

  taken : (e : EncoderState V) (f : Frame) (p : ℕ) → counters e.ring ≡ back p 127 → is_message_to e.address f ≡ true
      → IsTaken step e f p
  taken e f p is h = go (reaches f.address e.address) (f.counter == 0) (kept_code e.ring f.counter) refl refl refl h
    where
      go : (r z : Bool) (k : Option Code) → reaches f.address e.address ≡ r → (f.counter == 0) ≡ z
          → kept_code e.ring f.counter ≡ k → (r && not z) ≡ true → IsTaken step e f p
      go true true k a b c h = absurd (cc)
      go false z k a b c h = absurd (cc)
      go true false (Some d) a b c h = record {
        address = rw (a, b, c);
        value = λ same. rw (a, b, c);
        now = p;
        ring = rw (a, b, c) is;
        moved = inl refl;
        replied = rw (a, b, c) (λ x has. let e1 = one-of f.counter x has in
            (e1, subst (IsIn p) (sym e1) (kept_is_back e.ring p 127 f.counter d is c)));
        due = λ turn. absurd (not_in p (subst (IsIn p) turn (kept_is_back e.ring p 127 f.counter d is c)));
        answered = λ _. rw (a, b, c) (self-of f.counter);
      }
      go true false None a b c h = by (is_next e.ring f.counter) refl
        where
          not_due : f.counter ≡ 1 + p % 255 → is_next e.ring f.counter ≡ false → ⊥
          not_due turn n = let y : is_next e.ring f.counter ≡ true =
              eq-eqb f.counter (next_after (newest e.ring)) (turn ∙ sym (next_is_back e.ring p is)) in cc

          not_either : IsIn p f.counter ⊎ (f.counter ≡ 1 + p % 255) → is_next e.ring f.counter ≡ false → ⊥
          not_either (inl (q, below, late, at)) n = back_is_kept e.ring p 127 q is below late
              (ap (kept_code e.ring) (sym at) ∙ c)
          not_either (inr turn) n = not_due turn n

          by : (n : Bool) → is_next e.ring f.counter ≡ n → IsTaken step e f p
          by true n =
              let turn : f.counter ≡ 1 + p % 255 = eqb-true f.counter (next_after (newest e.ring)) n
              ∙ next_is_back e.ring p is in
              record {
                address = rw (a, b, c, n);
                value = λ same. rw (a, b, c, n) (same e.value);
                now = suc p;
                ring = rw (a, b, c, n) (keep_is_back e.ring p f.counter (step e.value f.message).1 is turn);
                moved = inr (refl, turn);
                replied = rw (a, b, c, n) (λ x has. let e1 = one-of f.counter x has in
                    (e1, (p, omega arith, omega arith, e1 ∙ turn)));
                due = λ _. refl;
                answered = λ _. rw (a, b, c, n) (self-of f.counter);
              }
          by false n = record {
            address = rw (a, b, c, n);
            value = λ same. rw (a, b, c, n);
            now = p;
            ring = rw (a, b, c, n) is;
            moved = inl refl;
            replied = rw (a, b, c, n) (λ x has. absurd (none-of x has));
            due = λ turn. absurd (not_due turn n);
            answered = λ which. absurd (not_either which n);
          }

  -- ---- All that happened.

  -- whatever happens, the ring is that of so many messages
  pub some_back : (e : EncoderState V) (hs : List (Happening V)) (p : ℕ) → counters e.ring ≡ back p 127
      → (now : ℕ) × (counters (after_happenings step e hs).ring ≡ back now 127)
  some_back e [] p is = (p, is)
  some_back e (Finds (Err fault) ∷ hs) p is = some_back (after_finding step e (Err fault)) hs p is
  some_back e (Becomes value counts part ∷ hs) p is =
      some_back (after_happening step e (Becomes value counts part)) hs p is
  some_back e (Finds (Ok f) ∷ hs) p is =
      elim (cases_Bool (is_message_to e.address f)) [
        | inl some ↦ (let t = taken e f p is some in some_back (after_finding step e (Ok f)) hs t.now t.ring)
        | inr none ↦ (let t = quiet e f none in some_back (after_finding step e (Ok f)) hs p (ap counters t.ring ∙ is))
      ]

  address_is : (e : EncoderState V) (hs : List (Happening V)) → (after_happenings step e hs).address ≡ e.address
  address_is e [] = refl
  address_is e (Finds (Err fault) ∷ hs) = address_is (after_finding step e (Err fault)) hs
  address_is e (Becomes value counts part ∷ hs) = address_is (after_happening step e (Becomes value counts part)) hs
  address_is e (Finds (Ok f) ∷ hs) = address_is (after_finding step e (Ok f)) hs
      ∙ here (reaches f.address e.address) (f.counter == 0) (kept_code e.ring f.counter) (is_next e.ring f.counter) refl
      refl refl refl
    where
      here : (r z : Bool) (k : Option Code) (n : Bool) → reaches f.address e.address ≡ r → (f.counter == 0) ≡ z
          → kept_code e.ring f.counter ≡ k → is_next e.ring f.counter ≡ n →
          (after_finding step e (Ok f)).address ≡ e.address
      here true true k n a b c d = rw (a, b)
      here true false (Some code) n a b c d = rw (a, b, c)
      here true false None true a b c d = rw (a, b, c, d)
      here true false None false a b c d = rw (a, b, c, d)
      here false z k n a b c d = rw a

  -- ---- A pass.

  -- of `then` messages no further one was applied up to `now`, or the last that was has at least this counter
  abbrev Grown : (least earlier now : ℕ) → Type 0
  Grown least earlier now = (now ≡ earlier) ⊎ ((m : ℕ) × (now ≡ suc m) × (least ≤ 1 + m % 255))

  -- the counter was among the last ones at its turn, and later ones alone were applied since
  abbrev Turn : (counter now : ℕ) → Type 0
  Turn counter now = (then_ : ℕ) × IsIn then_ counter × Grown counter then_ now

  record Passed (e : EncoderState V) (hs : List (Happening V)) (p least : ℕ) : Type 0 where
    pub value : (after_happenings step e hs).value ≡ value_without e.value hs
    pub now : ℕ
    pub ring : counters (after_happenings step e hs).ring ≡ back now 127
    pub grown : Grown least p now
    pub replied : (c : ℕ) → Contains (counters_replied step e hs) c → Turn c now

  passed : ((v : V) → (step v []).0 ≡ v) → (e : EncoderState V) (hs : List (Happening V)) (p least : ℕ)
      → counters e.ring ≡ back p 127 →
      IsPass least (messages_to e.address hs) → Passed e hs p least
  passed same e [] p least is pass = record {
    value = refl;
    now = p;
    ring = is;
    grown = inl refl;
    replied = λ c has. absurd (none-of c has);
  }
  passed same e (Finds (Err fault) ∷ hs) p least is pass =
      let r = passed same (after_finding step e (Err fault)) hs p least is pass in
      record { value = r.value; now = r.now; ring = r.ring; grown = r.grown; replied = r.replied }
  passed same e (Becomes value counts part ∷ hs) p least is pass =
      let r = passed same (after_happening step e (Becomes value counts part)) hs p least is pass in
      record { value = r.value; now = r.now; ring = r.ring; grown = r.grown; replied = r.replied }
  passed same e (Finds (Ok f) ∷ hs) p least is pass =
      elim (cases_Bool (is_message_to e.address f)) [
        | inl some ↦
            (let t = taken e f p is some in
            let e1 : EncoderState V = after_finding step e (Ok f) in
            let of : IsPass least (f ∷ messages_to e.address hs) = rw some at pass in
            let r : Passed e1 hs t.now f.counter = passed same e1 hs t.now f.counter t.ring
            (subst (λ (a : ℕ). IsPass f.counter (messages_to a hs)) (sym t.address) of.2) in
            record {
              value = r.value ∙ ap (λ v. value_without v hs) (t.value
                  (subst (λ (m : List ℕ). (v : V) → (step v m).0 ≡ v) (sym of.0) same));
              now = r.now;
              ring = r.ring;
              grown = grown_on p t.now r.now least f.counter of.1 t.moved r.grown;
              replied = λ c has. elim (Contains-append_cases (replied_in step e (Finds (Ok f)))
                  (counters_replied step e1 hs) c has) [
                    | inl now ↦ (let w = t.replied c now in (
                      t.now,
                      w.1,
                      subst (λ (c : ℕ). Grown c t.now r.now) (sym w.0) r.grown,
                    ))
                    | inr later ↦ r.replied c later
                  ];
            })
        | inr none ↦
            (let t = quiet e f none in
            let e1 : EncoderState V = after_finding step e (Ok f) in
            let of : IsPass least (messages_to e.address hs) = rw none at pass in
            let r : Passed e1 hs p least = passed same e1 hs p least (ap counters t.ring ∙ is)
            (subst (λ (a : ℕ). IsPass least (messages_to a hs)) (sym t.address) of) in
            record {
              value = r.value ∙ ap (λ v. value_without v hs) t.value;
              now = r.now;
              ring = r.ring;
              grown = r.grown;
              replied = λ c has. r.replied c (subst (λ xs. Contains (xs ++ counters_replied step e1 hs) c) t.none has);
            })
      ]
    where
      grown_on : (p q now least counter : ℕ) → least ≤ counter → (q ≡ p) ⊎ ((q ≡ suc p) × (counter ≡ 1 + p % 255))
          → Grown counter q now → Grown least p now
      grown_on p q now least counter le (inl a) (inl b) = inl (b ∙ a)
      grown_on p q now least counter le (inr a) (inl b) = inr (p, b ∙ a.0, (let t = a.1 in omega (arith, t)))
      grown_on p q now least counter le a (inr b) = inr (b.0, b.1, (let t = b.2 in omega (arith, t)))

  -- 81 and FF were among the last ones at their turns: all messages since are those up to FF
  all_round : (now : ℕ) → Turn 0x81 now → Turn 0xFF now → (now % 255 ≡ 0) × (255 ≤ now)
  all_round now (t, low, since) (u, (q, _, old, is), inr (m, now_is, far)) = (omega arith, omega arith)
  all_round now (t, low, inr (m, now_is, far)) (u, (q, below, old, is), inl same) = (omega arith, omega arith)
  all_round now (t, (k, under, late, low), inl also) (u, (q, below, old, is), inl same) = (omega arith, omega arith)

  -- from any encoder whose ring is that of so many messages
  pub joins_from : ((v : V) → (step v []).0 ≡ v) → (e : EncoderState V) (pass : List (Happening V)) (p : ℕ)
      → counters e.ring ≡ back p 127 → IsPass 1 (messages_to e.address pass) →
      Contains (counters_replied step e pass) 0x81 → Contains (counters_replied step e pass) 0xFF
      → HasJoined step e pass
  joins_from same e pass p old is low high =
      let r = passed same e pass p 1 old is in
      let round = all_round r.now (r.replied 0x81 low) (r.replied 0xFF high) in
      record {
        value = r.value;
        kept = r.ring ∙ back-same r.now 255 127 round.0 (let a = round.1 in omega arith) (omega arith);
        next = next_is_back (after_happenings step e pass).ring r.now r.ring ∙ ap (λ m. 1 + m) round.0;
      }

  pub joins_lem : Joins step
  joins_lem same address value before pass is low high =
      let old = some_back (opening address value) before 0 refl in
      joins_from same (after_happenings step (opening address value) before) pass old.0 old.1
      (subst (λ (a : ℕ). IsPass 1 (messages_to a pass)) (sym (address_is (opening address value) before)) is) low high

  -- ---- A pass of which nothing is lost.

  -- a counter from 81 on that is not past the next one is among the last ones, or is the next
  which : (p c : ℕ) → 0x81 ≤ c → c ≤ 255 → c ≤ 1 + p % 255 → IsIn p c ⊎ (c ≡ 1 + p % 255)
  which p c low high le =
      elim (cases_eq c (1 + p % 255)) [
        | inl turn ↦ inr turn
        | inr apart ↦ inl (p + c - (1 + p % 255), omega arith, omega arith, omega arith)
      ]

  -- after the message of a counter that is not past the next one, the counter after it is not past the next one either
  ahead_on : (p now first counter : ℕ) → counter ≡ first → first ≤ 1 + p % 255
      → (now ≡ p) ⊎ ((now ≡ suc p) × (counter ≡ 1 + p % 255)) → (counter ≡ 1 + p % 255 → now ≡ suc p) →
      first + 1 ≤ 255 → first + 1 ≤ 1 + now % 255
  ahead_on p now first counter this le (inr n) due more = let at = n.1 in let is = n.0 in omega arith
  ahead_on p now first counter this le (inl n) due more =
      elim (cases_eq counter (1 + p % 255)) [
        | inl turn ↦ (let m = due turn in absurd (omega arith))
        | inr apart ↦ omega arith
      ]

  whole : (e : EncoderState V) (hs : List (Happening V)) (p first many : ℕ) → counters e.ring ≡ back p 127
      → map (λ f. f.counter) (messages_to e.address hs) ≡ rising first many →
      first + many ≡ 256 → (first ≤ 255 → first ≤ 1 + p % 255) → (c : ℕ) → first ≤ c → 0x81 ≤ c → c ≤ 255
      → Contains (counters_replied step e hs) c
  whole e [] p first zero is all to ahead c a b d = absurd (omega arith)
  whole e [] p first (suc many) is all to ahead c a b d = absurd (cc)
  whole e (Finds (Err fault) ∷ hs) p first many is all to ahead c a b d =
      whole (after_finding step e (Err fault)) hs p first many is all to ahead c a b d
  whole e (Becomes value counts part ∷ hs) p first many is all to ahead c a b d =
      whole (after_happening step e (Becomes value counts part)) hs p first many is all to ahead c a b d
  whole e (Finds (Ok f) ∷ hs) p first zero is all to ahead c a b d = absurd (omega arith)
  whole e (Finds (Ok f) ∷ hs) p first (suc many) is all to ahead c a b d =
      let e1 : EncoderState V = after_finding step e (Ok f) in
      elim (cases_Bool (is_message_to e.address f)) [
        | inl some ↦
            (let t = taken e f p is some in
            let of : map (λ f. f.counter) (f ∷ messages_to e.address hs) ≡ rising first (suc many) = rw some at all in
            let this : f.counter ≡ first = cc in
            let rest : map (λ f. f.counter) (messages_to e.address hs) ≡ rising (first + 1) many = cc in
            let le : first ≤ 1 + p % 255 = ahead (omega arith) in
            elim (cases_eq first c) [
              | inl same ↦
                  Contains-append_left (replied_in step e (Finds (Ok f))) (counters_replied step e1 hs) c
                  (subst (Contains (replied_in step e (Finds (Ok f)))) (this ∙ same)
                  (t.answered (which p f.counter (omega arith) (omega arith) (omega arith))))
              | inr apart ↦
                  Contains-append_right (replied_in step e (Finds (Ok f))) (counters_replied step e1 hs) c
                  (whole e1 hs t.now (first + 1) many t.ring (ap (λ (x : ℕ). map (λ f. f.counter) (messages_to x hs))
                  t.address ∙ rest) (omega arith)
                  (ahead_on p t.now first f.counter this le t.moved t.due) c (omega arith) b d)
            ])
        | inr none ↦
            (let t = quiet e f none in
            let of : map (λ f. f.counter) (messages_to e.address hs) ≡ rising first (suc many) = rw none at all in
            Contains-append_right (replied_in step e (Finds (Ok f))) (counters_replied step e1 hs) c
            (whole e1 hs p first (suc many) (ap counters t.ring ∙ is)
            (ap (λ (x : ℕ). map (λ f. f.counter) (messages_to x hs)) t.address ∙ of) to ahead c a b d))
      ]

  pub replied_from : (e : EncoderState V) (pass : List (Happening V)) (p counter : ℕ) → counters e.ring ≡ back p 127
      → map (λ f. f.counter) (messages_to e.address pass) ≡ rising 1 255 →
      0x81 ≤ counter → counter ≤ 0xFF → Contains (counters_replied step e pass) counter
  replied_from e pass p counter old all low high =
      whole e pass p 1 255 old all (omega arith) (λ _. omega arith) counter (omega arith) low high

  pub whole_pass_is_replied_lem : WholePassIsReplied step
  whole_pass_is_replied_lem address value before pass counter all low high =
      let old = some_back (opening address value) before 0 refl in
      replied_from (after_happenings step (opening address value) before) pass old.0 counter old.1
      (ap (λ (a : ℕ). map (λ f. f.counter) (messages_to a pass)) (address_is (opening address value) before) ∙ all) low
      high
