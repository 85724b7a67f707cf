-- The marks that bytes bring, and the messages that wait before and after them.
use Rattle.std.proofs.Common.{◌≡◌, ℕ, zero, suc, ◌+◌, ◌<◌, ◌≤◌, ◌==◌, ◌||◌, Bool, true, false, not, cond, List, [], ◌∷◌}
use Rattle.std.proofs.Common.{◌++◌, length, map, Option, Some, None, Ok, Err, refl, ap, sym, ◌∙◌, subst, arith, inl}
use Rattle.std.proofs.Common.{inr, eq-eqb, eqb-true}
use Rattle.std.specs.Prelude.{filter_map}
use Rattle.std.specs.List.{filter, IsDistinct, AllByRecursion}
use Rattle.std.specs.Option.{option_or, IsSome}
use Rattle.std.proofs.lemmas.Bool.{cases_eq, ne_eqb, false≢true}
use Rattle.std.proofs.lemmas.Map.Keys.{IsDistinct-head, IsDistinct-tail}
use Rattle.std.proofs.lemmas.Map.Made.{IsDistinct-keys_filter}
use Rattle.uecp_elements.specs.declared.code.Code.{Code}
use Rattle.uecp_frame.specs.Findings.{Finding}
use Rattle.uecp_frame.specs.Beyond.{found_beyond, open_beyond}
use Rattle.uecp_encoder.specs.State.{raised}
use Rattle.uecp_link.specs.Counters.{counter_of}
use Rattle.uecp_link.specs.Server.{ServerState, Held, waiting_among, waiting, waits_for, marked_at, acknowledges, freed}
use Rattle.uecp_link.specs.Server.{raised_by, heard_finding, heard_findings, heard, told, all_heard_as}
use Rattle.uecp_link.specs.Server.{counters_waiting}
use Rattle.uecp_link.specs.Window.{mark_in, marks_in, code_under}
use Rattle.uecp_link.specs.declared.held_message.HeldMessage.{HeldMessage}
use Rattle.uecp_link.specs.HeldMessages.{held_in, with_mark, left_of, AreInTurn, IsHolding}
use Rattle.uecp_link.proofs.HeldFields.{marked_in, left_in}
use Rattle.uecp_link.proofs.Waiting.{acknowledged_waits, freed_waits}
use Rattle.uecp_link.proofs.FeedingLemmas.{heard_open}

-- ---- what stays

keeps_findings : (s : ServerState) (fs : List Finding)
    → ((heard_findings s fs).address ≡ s.address) × ((heard_findings s fs).last ≡ s.last)
keeps_findings s [] = (refl, refl)
keeps_findings s (Err fault ∷ fs) = keeps_findings (heard_finding s (Err fault)) fs
keeps_findings s (Ok f ∷ fs) = go (acknowledges s f) (λ k. keeps_findings (freed s k) fs)
  where
    go : (k : Option (ℕ × Code)) → ((k : Option (ℕ × Code))
        → ((heard_findings (freed s k) fs).address ≡ (freed s k).address)
        × ((heard_findings (freed s k) fs).last ≡ (freed s k).last))
        → ((heard_findings (freed s k) fs).address ≡ s.address) × ((heard_findings (freed s k) fs).last ≡ s.last)
    go None later = later None
    go (Some reply) later = later (Some reply)

-- what is heard changes neither the address nor the last counter
pub heard_keeps : (s : ServerState) (bytes : List ℕ)
    → ((heard s bytes).address ≡ s.address) × ((heard s bytes).last ≡ s.last)
heard_keeps s bytes = keeps_findings (record s { part = open_beyond s.part bytes }) (found_beyond s.part bytes)

-- ---- what is counted

pub raised_by-add : (m n count : ℕ) → raised_by (m + n) count ≡ raised_by n (raised_by m count)
raised_by-add zero n count = let none : zero + n ≡ n = omega arith in ap (λ k. raised_by k count) none
raised_by-add (suc m) n count = let one : suc m + n ≡ suc (m + n) = omega arith in
    ap (λ k. raised_by k count) one ∙ raised_by-add m n (raised count)

counted_findings : (s : ServerState) (fs : List Finding)
    → (heard_findings s fs).counts.acknowledged ≡ raised_by (length (filter_map mark_in (all_heard_as s fs)))
    s.counts.acknowledged
counted_findings s [] = refl
counted_findings s (Err fault ∷ fs) = counted_findings (heard_finding s (Err fault)) fs
counted_findings s (Ok f ∷ fs) = go (acknowledges s f) (λ k. counted_findings (freed s k) fs)
  where
    go : (k : Option (ℕ × Code)) → ((k : Option (ℕ × Code))
        → (heard_findings (freed s k) fs).counts.acknowledged
        ≡ raised_by (length (filter_map mark_in (all_heard_as (freed s k) fs))) (freed s k).counts.acknowledged)
        → (heard_findings (freed s k) fs).counts.acknowledged
        ≡ raised_by (length (filter_map mark_in (told k ∷ all_heard_as (freed s k) fs))) s.counts.acknowledged
    go None later = later None
    go (Some reply) later = later (Some reply)

-- each mark is counted as one acknowledgement
pub marks_counted : (s : ServerState) (bytes : List ℕ)
    → (heard s bytes).counts.acknowledged ≡ raised_by (length (marks_in s bytes)) s.counts.acknowledged
marks_counted s bytes =
    ap (λ (t : ServerState). t.counts.acknowledged) (heard_open s (open_beyond s.part bytes)
    (found_beyond s.part bytes)) ∙ counted_findings s (found_beyond s.part bytes)

-- ---- codes under a counter

pub code_under-append : (counter : ℕ) (m n : List (ℕ × Code))
    → code_under counter (m ++ n) ≡ option_or (code_under counter m) (code_under counter n)
code_under-append counter [] n = refl
code_under-append counter (mark ∷ m) n = go (mark.0 == counter) (code_under-append counter m n)
  where
    go : (b : Bool) → code_under counter (m ++ n) ≡ option_or (code_under counter m) (code_under counter n)
        → cond b (Some mark.1) (code_under counter (m ++ n))
        ≡ option_or (cond b (Some mark.1) (code_under counter m)) (code_under counter n)
    go true rest = refl
    go false rest = rest

-- ---- messages under other counters

-- whether a message has another counter
abbrev pub unlike : ℕ → ℕ × List ℕ → Bool
unlike counter w = not (w.0 == counter)

-- a mark leaves those under other counters
marked_others : (counter : ℕ) (hs : List Held) → waiting_among (marked_at counter hs)
    ≡ filter (unlike counter) (waiting_among hs)
marked_others counter [] = refl
marked_others counter (h ∷ hs) = go h.marked (h.counter == counter) refl (marked_others counter hs)
  where
    go : (b same : Bool) → (h.counter == counter) ≡ same
        → waiting_among (marked_at counter hs) ≡ filter (unlike counter) (waiting_among hs)
        → cond (same || b) (waiting_among (marked_at counter hs))
        ((h.counter, h.message) ∷ waiting_among (marked_at counter hs))
        ≡ filter (unlike counter) (cond b (waiting_among hs) ((h.counter, h.message) ∷ waiting_among hs))
    go true true is rest = rest
    go true false is rest = rest
    go false true is rest = rw is rest
    go false false is rest = rw is (ap (λ ws. (h.counter, h.message) ∷ ws) rest)

freed_others : (s : ServerState) (reply : ℕ × Code)
    → waiting (freed s (Some reply)) ≡ filter (unlike reply.0) (waiting s)
freed_others s reply = freed_waits (marked_at reply.0 s.held) ∙ marked_others reply.0 s.held

waits_gone : (counter : ℕ) (ws : List (ℕ × List ℕ)) → waits_for (filter (unlike counter) ws) counter ≡ false
waits_gone counter [] = refl
waits_gone counter (w ∷ ws) = go (w.0 == counter) refl (waits_gone counter ws)
  where
    go : (b : Bool) → (w.0 == counter) ≡ b → waits_for (filter (unlike counter) ws) counter ≡ false
        → waits_for (cond (not b) (w ∷ filter (unlike counter) ws) (filter (unlike counter) ws)) counter ≡ false
    go true is rest = rest
    go false is rest = rw is rest

waits_other : (counter other : ℕ) (ws : List (ℕ × List ℕ)) → (other ≡ counter → ⊥)
    → waits_for (filter (unlike other) ws) counter ≡ waits_for ws counter
waits_other counter other [] ne = refl
waits_other counter other (w ∷ ws) ne = go (w.0 == other) refl (waits_other counter other ws ne)
  where
    go : (b : Bool) → (w.0 == other) ≡ b → waits_for (filter (unlike other) ws) counter ≡ waits_for ws counter
        → waits_for (cond (not b) (w ∷ filter (unlike other) ws) (filter (unlike other) ws)) counter
        ≡ ((w.0 == counter) || waits_for ws counter)
    go true is rest = rw (ne_eqb w.0 counter (λ e. ne (sym (eqb-true w.0 other is) ∙ e))) rest
    go false is rest = ap (λ b. (w.0 == counter) || b) rest

waits_fewer : (counter other : ℕ) (ws : List (ℕ × List ℕ)) → waits_for ws counter ≡ false
    → waits_for (filter (unlike other) ws) counter ≡ false
waits_fewer counter other ws none =
    elim (cases_eq other counter) [
      | inl e ↦ ap (λ (c : ℕ). waits_for (filter (unlike c) ws) counter) e ∙ waits_gone counter ws
      | inr ne ↦ waits_other counter other ws ne ∙ none
    ]

-- ---- which messages have a mark

-- a message that waits no more has its mark
complete_findings : (counter : ℕ) (s : ServerState) (fs : List Finding) → waits_for (waiting s) counter ≡ true
    → waits_for (waiting (heard_findings s fs)) counter ≡ false
    → IsSome (code_under counter (filter_map mark_in (all_heard_as s fs)))
complete_findings counter s [] before after = absurd (false≢true (sym after ∙ before))
complete_findings counter s (Err fault ∷ fs) before after =
    complete_findings counter (heard_finding s (Err fault)) fs before after
complete_findings counter s (Ok f ∷ fs) before after =
    go (acknowledges s f) after (λ k. complete_findings counter (freed s k) fs)
  where
    go : (k : Option (ℕ × Code)) → waits_for (waiting (heard_findings (freed s k) fs)) counter ≡ false
        → ((k : Option (ℕ × Code)) → waits_for (waiting (freed s k)) counter ≡ true
        → waits_for (waiting (heard_findings (freed s k) fs)) counter ≡ false
        → IsSome (code_under counter (filter_map mark_in (all_heard_as (freed s k) fs))))
        → IsSome (code_under counter (filter_map mark_in (told k ∷ all_heard_as (freed s k) fs)))
    go None after later = later None before after
    go (Some reply) after later =
        elim (cases_eq reply.0 counter) [
          | inl e ↦ rw (eq-eqb reply.0 counter e) refl
          | inr ne ↦ rw (ne_eqb reply.0 counter ne) (later (Some reply)
              (ap (λ (ws : List (ℕ × List ℕ)). waits_for ws counter) (freed_others s reply)
              ∙ waits_other counter reply.0 (waiting s) ne ∙ before) after)
        ]

pub marks_complete : (counter : ℕ) (s : ServerState) (bytes : List ℕ) → waits_for (waiting s) counter ≡ true
    → waits_for (waiting (heard s bytes)) counter ≡ false → IsSome (code_under counter (marks_in s bytes))
marks_complete counter s bytes before after =
    let same = ap (λ (t : ServerState). waits_for (waiting t) counter)
    (heard_open s (open_beyond s.part bytes) (found_beyond s.part bytes)) in
    complete_findings counter s (found_beyond s.part bytes) before (sym same ∙ after)

-- where none waits under a counter, none does later, and none gets a mark
quiet_findings : (counter : ℕ) (s : ServerState) (fs : List Finding) → waits_for (waiting s) counter ≡ false
    → (waits_for (waiting (heard_findings s fs)) counter ≡ false)
    × (code_under counter (filter_map mark_in (all_heard_as s fs)) ≡ None)
quiet_findings counter s [] none = (none, refl)
quiet_findings counter s (Err fault ∷ fs) none = quiet_findings counter (heard_finding s (Err fault)) fs none
quiet_findings counter s (Ok f ∷ fs) none = go (acknowledges s f) refl (λ k. quiet_findings counter (freed s k) fs)
  where
    go : (k : Option (ℕ × Code)) → acknowledges s f ≡ k
        → ((k : Option (ℕ × Code)) → waits_for (waiting (freed s k)) counter ≡ false
        → (waits_for (waiting (heard_findings (freed s k) fs)) counter ≡ false)
        × (code_under counter (filter_map mark_in (all_heard_as (freed s k) fs)) ≡ None))
        → (waits_for (waiting (heard_findings (freed s k) fs)) counter ≡ false)
        × (code_under counter (filter_map mark_in (told k ∷ all_heard_as (freed s k) fs)) ≡ None)
    go None is later = later None none
    go (Some reply) is later =
        let other : reply.0 ≡ counter → ⊥ = λ e. false≢true
        (sym none ∙ (ap (waits_for (waiting s)) (sym e) ∙ acknowledged_waits s f reply is)) in
        let rest = later (Some reply) (ap (λ (ws : List (ℕ × List ℕ)). waits_for ws counter) (freed_others s reply)
        ∙ waits_fewer counter reply.0 (waiting s) none) in
        (rest.0, rw (ne_eqb reply.0 counter other) rest.1)

pub marks_quiet : (counter : ℕ) (s : ServerState) (bytes : List ℕ) → waits_for (waiting s) counter ≡ false
    → (waits_for (waiting (heard s bytes)) counter ≡ false) × (code_under counter (marks_in s bytes) ≡ None)
marks_quiet counter s bytes none =
    let quiet = quiet_findings counter s (found_beyond s.part bytes) none in (
      ap (λ (t : ServerState). waits_for (waiting t) counter)
          (heard_open s (open_beyond s.part bytes) (found_beyond s.part bytes)) ∙ quiet.0,
      quiet.1,
    )

-- a message that still waits has no mark
unmarked_findings : (counter : ℕ) (s : ServerState) (fs : List Finding)
    → waits_for (waiting (heard_findings s fs)) counter ≡ true
    → code_under counter (filter_map mark_in (all_heard_as s fs)) ≡ None
unmarked_findings counter s [] after = refl
unmarked_findings counter s (Err fault ∷ fs) after = unmarked_findings counter (heard_finding s (Err fault)) fs after
unmarked_findings counter s (Ok f ∷ fs) after = go (acknowledges s f) after
    (λ k. unmarked_findings counter (freed s k) fs)
  where
    go : (k : Option (ℕ × Code)) → waits_for (waiting (heard_findings (freed s k) fs)) counter ≡ true
        → ((k : Option (ℕ × Code)) → waits_for (waiting (heard_findings (freed s k) fs)) counter ≡ true
        → code_under counter (filter_map mark_in (all_heard_as (freed s k) fs)) ≡ None)
        → code_under counter (filter_map mark_in (told k ∷ all_heard_as (freed s k) fs)) ≡ None
    go None after later = later None after
    go (Some reply) after later =
        elim (cases_eq reply.0 counter) [
          | inl e ↦
              let gone : waits_for (waiting (freed s (Some reply))) counter ≡ false =
              ap (λ (ws : List (ℕ × List ℕ)). waits_for ws counter) (freed_others s reply)
              ∙ ap (λ (c : ℕ). waits_for (filter (unlike c) (waiting s)) counter) e
              ∙ waits_gone counter (waiting s) in
              absurd (false≢true (sym (quiet_findings counter (freed s (Some reply)) fs gone).0 ∙ after))
          | inr ne ↦ rw (ne_eqb reply.0 counter ne) (later (Some reply) after)
        ]

pub marks_only : (counter : ℕ) (s : ServerState) (bytes : List ℕ) → waits_for (waiting (heard s bytes)) counter ≡ true
    → code_under counter (marks_in s bytes) ≡ None
marks_only counter s bytes after =
    let same = ap (λ (t : ServerState). waits_for (waiting t) counter)
    (heard_open s (open_beyond s.part bytes) (found_beyond s.part bytes)) in
    unmarked_findings counter s (found_beyond s.part bytes) (sym same ∙ after)

-- ---- how many marks

none_gone : (counter : ℕ) (ws : List (ℕ × List ℕ)) → AllByRecursion (λ y. (counter == y) ≡ false) (map (λ w. w.0) ws)
    → filter (unlike counter) ws ≡ ws
none_gone counter [] others = refl
none_gone counter (w ∷ ws) others =
    let ne : w.0 ≡ counter → ⊥ = λ e. false≢true (sym others.0 ∙ eq-eqb counter w.0 (sym e)) in
    rw (ne_eqb w.0 counter ne) (ap (λ l. w ∷ l) (none_gone counter ws others.1))

-- of messages with different counters one goes
one_gone : (counter : ℕ) (ws : List (ℕ × List ℕ)) → IsDistinct ◌==◌ (map (λ w. w.0) ws) → waits_for ws counter ≡ true
    → length (filter (unlike counter) ws) + 1 ≡ length ws
one_gone counter [] distinct waits = absurd (false≢true waits)
one_gone counter (w ∷ ws) distinct waits = go (w.0 == counter) refl waits
    (one_gone counter ws (IsDistinct-tail ◌==◌ w.0 (map (λ w. w.0) ws) distinct))
  where
    go : (b : Bool) → (w.0 == counter) ≡ b → (b || waits_for ws counter) ≡ true
        → (waits_for ws counter ≡ true → length (filter (unlike counter) ws) + 1 ≡ length ws)
        → length (cond (not b) (w ∷ filter (unlike counter) ws) (filter (unlike counter) ws)) + 1 ≡ suc (length ws)
    go true is waits later =
        let same : w.0 ≡ counter = eqb-true w.0 counter is in
        let all : filter (unlike counter) ws ≡ ws = none_gone counter ws
        (subst (λ (c : ℕ). AllByRecursion (λ y. (c == y) ≡ false) (map (λ w. w.0) ws)) same
        (IsDistinct-head ◌==◌ w.0 (map (λ w. w.0) ws) distinct)) in
        omega (arith, ap (λ (l : List (ℕ × List ℕ)). length l) all)
    go false is waits later = let rest = later waits in omega (arith, rest)

distinct_freed : (s : ServerState) (reply : ℕ × Code) → IsDistinct ◌==◌ (counters_waiting s)
    → IsDistinct ◌==◌ (counters_waiting (freed s (Some reply)))
distinct_freed s reply distinct =
    subst (λ (ws : List (ℕ × List ℕ)). IsDistinct ◌==◌ (map (λ w. w.0) ws)) (sym (freed_others s reply))
    (IsDistinct-keys_filter ◌==◌ (unlike reply.0) (waiting s) distinct)

number_findings : (s : ServerState) (fs : List Finding) → IsDistinct ◌==◌ (counters_waiting s)
    → length (filter_map mark_in (all_heard_as s fs)) + length (waiting (heard_findings s fs)) ≡ length (waiting s)
number_findings s [] distinct = omega arith
number_findings s (Err fault ∷ fs) distinct = number_findings (heard_finding s (Err fault)) fs distinct
number_findings s (Ok f ∷ fs) distinct = go (acknowledges s f) refl (λ k. number_findings (freed s k) fs)
  where
    go : (k : Option (ℕ × Code)) → acknowledges s f ≡ k
        → ((k : Option (ℕ × Code)) → IsDistinct ◌==◌ (counters_waiting (freed s k))
        → length (filter_map mark_in (all_heard_as (freed s k) fs))
        + length (waiting (heard_findings (freed s k) fs)) ≡ length (waiting (freed s k)))
        → length (filter_map mark_in (told k ∷ all_heard_as (freed s k) fs))
        + length (waiting (heard_findings (freed s k) fs)) ≡ length (waiting s)
    go None is later = later None distinct
    go (Some reply) is later =
        let rest = later (Some reply) (distinct_freed s reply distinct) in
        let one = one_gone reply.0 (waiting s) distinct (acknowledged_waits s f reply is) in
        omega (arith, rest, one, ap (λ (ws : List (ℕ × List ℕ)). length ws) (freed_others s reply))

-- each mark is one message fewer that waits, where their counters differ
pub marks_number : (s : ServerState) (bytes : List ℕ) → IsDistinct ◌==◌ (counters_waiting s)
    → length (marks_in s bytes) + length (waiting (heard s bytes)) ≡ length (waiting s)
marks_number s bytes distinct =
    let same = ap (λ (t : ServerState). length (waiting t))
    (heard_open s (open_beyond s.part bytes) (found_beyond s.part bytes)) in
    omega (arith, number_findings s (found_beyond s.part bytes) distinct, same)

distinct_findings : (s : ServerState) (fs : List Finding) → IsDistinct ◌==◌ (counters_waiting s)
    → IsDistinct ◌==◌ (counters_waiting (heard_findings s fs))
distinct_findings s [] distinct = distinct
distinct_findings s (Err fault ∷ fs) distinct = distinct_findings (heard_finding s (Err fault)) fs distinct
distinct_findings s (Ok f ∷ fs) distinct = go (acknowledges s f) (λ k. distinct_findings (freed s k) fs)
  where
    go : (k : Option (ℕ × Code)) → ((k : Option (ℕ × Code)) → IsDistinct ◌==◌ (counters_waiting (freed s k))
        → IsDistinct ◌==◌ (counters_waiting (heard_findings (freed s k) fs)))
        → IsDistinct ◌==◌ (counters_waiting (heard_findings (freed s k) fs))
    go None later = later None distinct
    go (Some reply) later = later (Some reply) (distinct_freed s reply distinct)

-- the counters of those that still wait differ too
pub heard_distinct : (s : ServerState) (bytes : List ℕ) → IsDistinct ◌==◌ (counters_waiting s)
    → IsDistinct ◌==◌ (counters_waiting (heard s bytes))
heard_distinct s bytes distinct = distinct_findings (record s { part = open_beyond s.part bytes })
    (found_beyond s.part bytes) distinct

-- ---- the counters that a server holds

-- the counters of those that wait
abbrev pub counters_among : List HeldMessage → List ℕ
counters_among hs = map (λ w. w.0) (waiting_among (held_in hs))

-- one message before others, if it waits
with_first : (P : List ℕ → Type 0) (h : HeldMessage) (hs : List HeldMessage) → P (counters_among hs)
    → P (h.counter ∷ counters_among hs) → P (counters_among (h ∷ hs))
with_first P h hs without with = go h.marked
  where
    go : (b : Bool) → P (map (λ w. w.0) (cond b (waiting_among (held_in hs))
        ((h.counter, h.message) ∷ waiting_among (held_in hs))))
    go true = without
    go false = with

-- the counter of the first is none of the later ones, where these are fewer than 254
later_differ : (last first i : ℕ) (h : HeldMessage) (hs : List HeldMessage) → h.counter ≡ counter_of (first + i)
    → AreInTurn last (h ∷ hs) → i + length hs < 254 → AllByRecursion (λ y. (first == y) ≡ false)
    (counters_among (h ∷ hs))
later_differ last first i h [] is turn near =
    with_first (AllByRecursion (λ y. (first == y) ≡ false)) h [] tt
    (ne_eqb first h.counter (λ e. omega (arith, is, e, near)), tt)
later_differ last first i h (g ∷ hs) is turn near =
    let rest = later_differ last first (i + 1) g hs (omega (arith, turn.0, is)) turn.1 (omega (arith, near)) in
    with_first (AllByRecursion (λ y. (first == y) ≡ false)) h (g ∷ hs) rest
    (ne_eqb first h.counter (λ e. omega (arith, is, e, near)), rest)

-- at most eight messages in turn have different counters
pub in_turn-distinct : (last : ℕ) (hs : List HeldMessage) → AreInTurn last hs → length hs ≤ 8
    → IsDistinct ◌==◌ (counters_among hs)
unfolding IsDistinct
in_turn-distinct last [] turn few = tt
in_turn-distinct last (h ∷ []) turn few = with_first (IsDistinct ◌==◌) h [] tt (tt, tt)
in_turn-distinct last (h ∷ g ∷ hs) turn few =
    let rest = in_turn-distinct last (g ∷ hs) turn.1 (omega (arith, few)) in
    let others = later_differ last h.counter 0 g hs (omega (arith, turn.0)) turn.1 (omega (arith, few)) in
    with_first (IsDistinct ◌==◌) h (g ∷ hs) rest (others, rest)

-- once one that waits is marked, and what may be let go is, one fewer waits
pub marked_one : (address last counter : ℕ) (hs left : List HeldMessage) → IsHolding address last hs
    → waits_for (waiting_among (held_in hs)) counter ≡ true → left ≡ left_of (map (with_mark counter) hs)
    → 1 + length (waiting_among (held_in left)) ≡ length (waiting_among (held_in hs))
marked_one address last counter hs left is waits left_is =
    let ws : List (ℕ × List ℕ) = waiting_among (held_in hs) in
    let after : waiting_among (held_in left) ≡ filter (unlike counter) ws =
    ap (λ (l : List HeldMessage). waiting_among (held_in l)) left_is
    ∙ ap waiting_among (left_in (map (with_mark counter) hs)) ∙ freed_waits (held_in (map (with_mark counter) hs))
    ∙ ap waiting_among (marked_in counter hs) ∙ marked_others counter (held_in hs) in
    let one = one_gone counter ws (in_turn-distinct last hs is.in_turn is.few) waits in
    omega (arith, one, ap (λ (l : List (ℕ × List ℕ)). length l) after)
