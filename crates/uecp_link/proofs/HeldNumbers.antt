-- What a server holds of a line's numbers: those from one on, each with its mark.
use Rattle.std.proofs.Common.{◌≡◌, ℕ, zero, suc, ◌+◌, ◌<◌, ◌≤◌, ◌==◌, ◌||◌, Bool, true, false, cond, List, [], ◌∷◌}
use Rattle.std.proofs.Common.{◌++◌, length, map, refl, ap, sym, ◌∙◌, arith, inl, inr, eq-eqb, append-nil, append_assoc}
use Rattle.std.proofs.lemmas.Bool.{cases_eq, cases_lt, ne_eqb, false≢true}
use Rattle.uecp_link.specs.Counters.{counter_of}
use Rattle.uecp_link.specs.Server.{Held, waiting_among, waits_for, marked_at, freed_of}
use Rattle.uecp_link.specs.Once.{message_at, missing, with_member}
use Rattle.uecp_link.specs.Kept.{held_number, held_from}
use Rattle.uecp_link.proofs.Ring.{counters_differ}
use Rattle.uecp_link.proofs.Numbering.{with_member-same, with_member-other, message_at-push, message_at-before}

-- ---- one number more, and other numbers

pub held_from-more : (sent : List (List ℕ)) (set : ℕ → Bool) (q count n : ℕ) → n ≡ q + count
    → held_from sent set q (suc count) ≡ held_from sent set q count ++ held_number sent set n ∷ []
held_from-more sent set q zero n e = let h : q ≡ n = omega arith in ap (λ k. held_number sent set k ∷ []) h
held_from-more sent set q (suc count) n e = ap (λ hs. held_number sent set q ∷ hs)
    (held_from-more sent set (suc q) count n (omega arith))

pub held_from-agree : (sent sent' : List (List ℕ)) (set set' : ℕ → Bool) (q count : ℕ)
    → ((k : ℕ) → q ≤ k → k < q + count → message_at sent k ≡ message_at sent' k)
    → ((k : ℕ) → q ≤ k → k < q + count → set k ≡ set' k)
    → held_from sent set q count ≡ held_from sent' set' q count
held_from-agree sent sent' set set' q zero m s = refl
held_from-agree sent sent' set set' q (suc count) m s =
    let rest : held_from sent set (suc q) count ≡ held_from sent' set' (suc q) count =
    held_from-agree sent sent' set set' (suc q) count (λ k a b. m k (omega arith) (omega arith))
    (λ k a b. s k (omega arith) (omega arith)) in
    let m0 : message_at sent q ≡ message_at sent' q = m q (omega arith) (omega arith) in
    let s0 : set q ≡ set' q = s q (omega arith) (omega arith) in
    ap (λ x. record { counter = counter_of q; message = x; marked = set q } ∷ held_from sent set (suc q) count) m0
    ∙ (ap (λ b. record { counter = counter_of q; message = message_at sent' q; marked = b }
    ∷ held_from sent set (suc q) count) s0
    ∙ ap (λ hs. held_number sent' set' q ∷ hs) rest)

-- a message that is submitted is held as the next number
pub held_from-submitted : (sent : List (List ℕ)) (m : List ℕ) (set : ℕ → Bool) (q count n : ℕ) → length sent ≡ n
    → n ≡ q + count → set n ≡ false
    → held_from sent set q count ++ record { counter = counter_of n; message = m; marked = false } ∷ []
    ≡ held_from (sent ++ m ∷ []) set q (suc count)
held_from-submitted sent m set q count n len all new =
    let sent' : List (List ℕ) = sent ++ m ∷ [] in
    ap (λ hs. hs ++ record { counter = counter_of n; message = m; marked = false } ∷ [])
    (held_from-agree sent sent' set set q count (λ k a b. sym (message_at-before sent m k (omega (arith, b, all, len))))
    (λ k a b. refl))
    ∙ ap (λ x. held_from sent' set q count ++ record { counter = counter_of n; message = x; marked = false } ∷ [])
    (sym (message_at-push sent m n (sym len)))
    ∙ ap (λ b. held_from sent' set q count ++ record {
      counter = counter_of n;
      message = message_at sent' n;
      marked = b;
    } ∷ []) (sym new)
    ∙ sym (held_from-more sent' set q count n all)

pub length-held_from : (sent : List (List ℕ)) (set : ℕ → Bool) (q count : ℕ)
    → length (held_from sent set q count) ≡ count
length-held_from sent set q zero = refl
length-held_from sent set q (suc count) = ap suc (length-held_from sent set (suc q) count)

-- ---- marks

-- numbers near each other differ in their counters
pub near_differ : (j k : ℕ) → (j ≡ k → ⊥) → j < k + 255 → k < j + 255 → counter_of j ≡ counter_of k → ⊥
near_differ j k ne a b h =
    elim (cases_lt j k) [
      | inl l ↦ counters_differ k j l b (sym h)
      | inr g ↦ counters_differ j k (omega arith) a h
    ]

-- a mark at a number's counter is one more acknowledged number
mark_is : (set : ℕ → Bool) (k q : ℕ) → q < k + 255 → k < q + 255
    → (counter_of q == counter_of k || set q) ≡ with_member set k q
mark_is set k q a b =
    elim (cases_eq q k) [
      | inl e ↦ rw (eq-eqb (counter_of q) (counter_of k) (ap counter_of e)) (sym (with_member-same set k q e))
      | inr ne ↦ rw (ne_eqb (counter_of q) (counter_of k) (near_differ q k ne a b)) (sym (with_member-other set k q ne))
    ]

pub marked-held : (sent : List (List ℕ)) (set : ℕ → Bool) (k q count : ℕ) → q + count ≤ k + 255 → k < q + 255
    → marked_at (counter_of k) (held_from sent set q count) ≡ held_from sent (with_member set k) q count
marked-held sent set k q zero a b = refl
marked-held sent set k q (suc count) a b =
    let rest : marked_at (counter_of k) (held_from sent set (suc q) count)
    ≡ held_from sent (with_member set k) (suc q) count =
    marked-held sent set k (suc q) count (omega arith) (omega arith) in
    ap (λ (m : Bool). let h : Held = record { counter = counter_of q; message = message_at sent q; marked = m } in
    h ∷ marked_at (counter_of k) (held_from sent set (suc q) count)) (mark_is set k q (omega (arith, a)) b)
    ∙ ap (λ hs. held_number sent (with_member set k) q ∷ hs) rest

-- what is left when the marked ones from the oldest on are let go: the numbers from the least that is not acknowledged
pub record Left (sent : List (List ℕ)) (set : ℕ → Bool) (q count : ℕ) : Type 0 where
  pub at : ℕ
  pub many : ℕ
  pub is : freed_of (held_from sent set q count) ≡ held_from sent set at many
  pub whole : at + many ≡ q + count
  pub from : q ≤ at
  pub below : (j : ℕ) → q ≤ j → j < at → set j ≡ true
  pub least : 0 < many → set at ≡ false

pub freed-held : (sent : List (List ℕ)) (set : ℕ → Bool) (q count : ℕ) → Left sent set q count
freed-held sent set q zero = record {
  at = q;
  many = 0;
  is = refl;
  whole = refl;
  from = omega arith;
  below = λ j a b. absurd (omega arith);
  least = λ h. absurd (omega arith);
}
freed-held sent set q (suc count) = go (set q) refl (freed-held sent set (suc q) count)
  where
    go : (b : Bool) → set q ≡ b → Left sent set (suc q) count → Left sent set q (suc count)
    go true h l = record {
      at = l.at;
      many = l.many;
      is = rw h l.is;
      whole = omega (arith, l.whole);
      from = omega (arith, l.from);
      below = λ j a b. elim (cases_eq j q) [
        | inl e ↦ ap set e ∙ h
        | inr ne ↦ l.below j (omega arith) b
      ];
      least = l.least;
    }
    go false h l = record {
      at = q;
      many = suc count;
      is = rw h refl;
      whole = refl;
      from = omega arith;
      below = λ j a b. absurd (omega arith);
      least = λ x. h;
    }

-- ---- which of them wait

-- of so many numbers from one on, those that are not in the set
abbrev pub missing_from : (ℕ → Bool) → ℕ → ℕ → List ℕ
missing_from set q zero = []
missing_from set q (suc count) = cond (set q) (missing_from set (suc q) count) (q ∷ missing_from set (suc q) count)

missing-split : (set : ℕ → Bool) (q count n : ℕ) → n ≡ q + count
    → missing set n ≡ missing set q ++ missing_from set q count
missing-split set q zero n e = let h : n ≡ q = omega arith in ap (missing set) h ∙ sym (append-nil (missing set q))
missing-split set q (suc count) n e = missing-split set (suc q) count n (omega arith) ∙ go (set q)
  where
    go : (b : Bool) → (missing set q ++ cond b [] (q ∷ [])) ++ missing_from set (suc q) count ≡ missing set q
        ++ cond b (missing_from set (suc q) count) (q ∷ missing_from set (suc q) count)
    go true = append_assoc (missing set q) [] (missing_from set (suc q) count)
    go false = append_assoc (missing set q) (q ∷ []) (missing_from set (suc q) count)

pub none_missing : (set : ℕ → Bool) (n : ℕ) → ((j : ℕ) → j < n → set j ≡ true) → missing set n ≡ []
none_missing set zero all = refl
none_missing set (suc n) all = rw (all n (omega arith), none_missing set n (λ j l. all j (omega arith)))

-- where all numbers below one are acknowledged, those that are not are missing from there on
pub missing_is : (set : ℕ → Bool) (q count n : ℕ) → n ≡ q + count → ((j : ℕ) → j < q → set j ≡ true)
    → missing set n ≡ missing_from set q count
missing_is set q count n e all = missing-split set q count n e
    ∙ ap (λ ks. ks ++ missing_from set q count) (none_missing set q all)

pub waiting-held : (sent : List (List ℕ)) (set : ℕ → Bool) (q count : ℕ)
    → waiting_among (held_from sent set q count) ≡ map (λ k. (counter_of k, message_at sent k))
    (missing_from set q count)
waiting-held sent set q zero = refl
waiting-held sent set q (suc count) = go (set q) (waiting-held sent set (suc q) count)
  where
    go : (b : Bool) → waiting_among (held_from sent set (suc q) count)
        ≡ map (λ k. (counter_of k, message_at sent k)) (missing_from set (suc q) count)
        → cond b (waiting_among (held_from sent set (suc q) count))
        ((counter_of q, message_at sent q) ∷ waiting_among (held_from sent set (suc q) count))
        ≡ map (λ k. (counter_of k, message_at sent k)) (cond b (missing_from set (suc q) count)
        (q ∷ missing_from set (suc q) count))
    go true h = h
    go false h = ap (λ ws. (counter_of q, message_at sent q) ∷ ws) h

-- no more wait than are held
pub few_wait : (hs : List Held) → length (waiting_among hs) ≤ length hs
few_wait [] = omega arith
few_wait (h ∷ hs) = go h.marked (few_wait hs)
  where
    go : (b : Bool) → length (waiting_among hs) ≤ length hs
        → length (cond b (waiting_among hs) ((h.counter, h.message) ∷ waiting_among hs)) ≤ suc (length hs)
    go true rest = omega arith
    go false rest = omega arith

-- a number that is acknowledged does not wait
pub waits_not : (sent : List (List ℕ)) (set : ℕ → Bool) (k q count : ℕ) → set k ≡ true → q + count ≤ k + 255
    → k < q + 255 → waits_for (waiting_among (held_from sent set q count)) (counter_of k) ≡ false
waits_not sent set k q zero h a b = refl
waits_not sent set k q (suc count) h a b = go (set q) refl
    (waits_not sent set k (suc q) count h (omega arith) (omega arith))
  where
    go : (b : Bool) → set q ≡ b → waits_for (waiting_among (held_from sent set (suc q) count)) (counter_of k) ≡ false
        → waits_for (cond b (waiting_among (held_from sent set (suc q) count))
        ((counter_of q, message_at sent q) ∷ waiting_among (held_from sent set (suc q) count))) (counter_of k)
        ≡ false
    go true e rest = rest
    go false e rest =
        let ne : q ≡ k → ⊥ = λ same. false≢true (sym e ∙ (ap set same ∙ h)) in
        rw (ne_eqb (counter_of q) (counter_of k) (near_differ q k ne (omega (arith, a)) (omega (arith, b)))) rest

-- one that is not does, if it is held
pub waits_so : (sent : List (List ℕ)) (set : ℕ → Bool) (k q count : ℕ) → set k ≡ false → q ≤ k → k < q + count
    → waits_for (waiting_among (held_from sent set q count)) (counter_of k) ≡ true
waits_so sent set k q zero h a b = absurd (omega arith)
waits_so sent set k q (suc count) h a b =
    elim (cases_eq q k) [
      | inl e ↦ rw (ap set e ∙ h, eq-eqb (counter_of q) (counter_of k) (ap counter_of e)) refl
      | inr ne ↦ go (set q) (waits_so sent set k (suc q) count h (omega arith) (omega arith))
    ]
  where
    or_true : (x y : Bool) → y ≡ true → (x || y) ≡ true
    or_true true y e = refl
    or_true false y e = e

    go : (b : Bool) → waits_for (waiting_among (held_from sent set (suc q) count)) (counter_of k) ≡ true
        → waits_for (cond b (waiting_among (held_from sent set (suc q) count))
        ((counter_of q, message_at sent q) ∷ waiting_among (held_from sent set (suc q) count))) (counter_of k)
        ≡ true
    go true rest = rest
    go false rest = or_true (counter_of q == counter_of k)
        (waits_for (waiting_among (held_from sent set (suc q) count)) (counter_of k)) rest

-- the oldest that is held waits, before all others
pub oldest_waits : (sent : List (List ℕ)) (set : ℕ → Bool) (q count : ℕ) → 0 < count → set q ≡ false
    → (rest : List (ℕ × List ℕ)) × (waiting_among (held_from sent set q count) ≡ (counter_of q, message_at sent q)
    ∷ rest)
oldest_waits sent set q zero some waits = absurd (omega arith)
oldest_waits sent set q (suc count) some waits = (waiting_among (held_from sent set (suc q) count), rw waits refl)
