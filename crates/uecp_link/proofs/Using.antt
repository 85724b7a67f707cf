-- Where nothing is lost any more, every message is acknowledged.
use Rattle.std.proofs.Common.{◌≡◌, ℕ, zero, suc, ◌+◌, ◌<◌, ◌≤◌, ◌==◌, Bool, true, false, cond, List, [], ◌∷◌, ◌++◌}
use Rattle.std.proofs.Common.{length, map, Option, Some, None, nat_lt, refl, ap, sym, subst, ◌∙◌, arith, inl, inr}
use Rattle.std.specs.Prelude.{is_some, is_none}
use Rattle.std.specs.List.{AllByRecursion}
use Rattle.std.proofs.lemmas.Bool.{cases_Bool, cases_eq, cases_lt, eq-eqb, lt-ltb, le-ltb, le-leb, ltb-false}
use Rattle.std.proofs.lemmas.Bool.{false≢true}
use Rattle.uecp_elements.specs.declared.code.Code.{Code}
use Rattle.uecp_encoder.specs.Target.{Step, Taken}
use Rattle.uecp_link.specs.Counters.{counter_of, is_recent}
use Rattle.uecp_link.specs.Server.{waiting}
use Rattle.uecp_link.specs.Once.{Event, FrameComes, ReplyComes, Once, message_at, missing, with_member, refusal_of}
use Rattle.uecp_link.specs.Once.{after, delivered}
use Rattle.uecp_link.specs.Once.{is_next as is_next_number}
use Rattle.uecp_link.specs.Law.{World, encoder_after, server_after, happens, run, start, Fits}
use Rattle.uecp_link.specs.Using.{all_come, IsDone, after_all_come}
use Rattle.uecp_link.proofs.Numbering.{is_none-of, with_code-next, with_member-same, with_member-true}
use Rattle.uecp_link.proofs.HeldNumbers.{missing_from, missing_is, none_missing}
use Rattle.uecp_link.proofs.Least.{next_number}
use Rattle.uecp_link.proofs.Lawful.{lawful_run, lawful_start, law}

-- events at the once-machine alone
abbrev once_next : {V : Type 0} → Step V → Taken V → Once V → Event → Once V
once_next step taken o event = cond (is_none (refusal_of o event)) (after step taken o event) o

abbrev once_run : {V : Type 0} → Step V → Taken V → Once V → List Event → Once V
once_run step taken o [] = o
once_run step taken o (event ∷ events) = once_run step taken (once_next step taken o event) events

-- the numbers below p are applied, and each acknowledged one is
record Applied {V : Type 0} (o : Once V) (n p : ℕ) : Type 0 where
  sent : length o.sent ≡ n
  applied : (k : ℕ) → is_some (o.codes k) ≡ nat_lt k p
  p_le : p ≤ n

module _ {V : Type 0} (step : Step V) (taken : Taken V) where
  happens-once : (address : ℕ) (w : World V) (event : Event)
      → (happens step taken address w event).once ≡ once_next step taken w.once event
  happens-once address w event = go (is_none (refusal_of w.once event))
    where
      go : (b : Bool) → (cond b (record {
        encoder = encoder_after step taken address w.once w.encoder event;
        server = server_after address w.once w.server event;
        once = after step taken w.once event;
      }) w).once
          ≡ cond b (after step taken w.once event) w.once
      go true = refl
      go false = refl

  run-once : (address : ℕ) (w : World V) (events : List Event)
      → (run step taken address w events).once ≡ once_run step taken w.once events
  run-once address w [] = refl
  run-once address w (event ∷ events) = run-once address (happens step taken address w event) events
      ∙ ap (λ (o : Once V). once_run step taken o events) (happens-once address w event)

  run-append : (address : ℕ) (w : World V) (xs ys : List Event)
      → run step taken address w (xs ++ ys) ≡ run step taken address (run step taken address w xs) ys
  run-append address w [] ys = refl
  run-append address w (x ∷ xs) ys = run-append address (happens step taken address w x) xs ys

  once_run-append : (o : Once V) (xs ys : List Event)
      → once_run step taken o (xs ++ ys) ≡ once_run step taken (once_run step taken o xs) ys
  once_run-append o [] ys = refl
  once_run-append o (x ∷ xs) ys = once_run-append (once_next step taken o x) xs ys

  -- the frame of a recent number that was sent, where all before it are applied: it is applied, or was
  record OneMore (o o' : Once V) (n p0 k : ℕ) : Type 0 where
    p : ℕ
    on : p0 ≤ p
    is : Applied o' n p
    here : k < p
    same : o'.acknowledged ≡ o.acknowledged

  frame_comes : (o : Once V) (n p k : ℕ) → Applied o n p → k ≤ p → k < n → n ≤ k + 8
      → OneMore o (once_next step taken o (FrameComes k)) n p k
  frame_comes o n p k is up_to below near =
      let sent : nat_lt k (length o.sent) ≡ true = lt-ltb k (length o.sent) (omega (arith, below, is.sent)) in
      let recent : is_recent (length o.sent) k ≡ true =
      le-leb (length o.sent) (k + 127) (omega (arith, near, is.sent)) in
      rw (sent, recent) (go (o.codes k) refl)
    where
      next : is_next_number o.codes (length o.sent) k ≡ (k == p)
      next = next_number o.codes p (length o.sent) k is.applied (omega (arith, is.p_le, is.sent))

      go : (c : Option Code) → o.codes k ≡ c → OneMore o (delivered step o k c) n p k
      go (Some code) has =
          let l : k < p = elim (cases_lt k p) [
            | inl l ↦ l
            | inr g ↦ absurd (false≢true (sym (le-ltb k p g) ∙ (sym (is.applied k) ∙ ap is_some has)))
          ] in
          record {
            p = p;
            on = omega arith;
            is = record { sent = is.sent; applied = is.applied; p_le = is.p_le };
            here = l;
            same = refl;
          }
      go None has =
          let above : p ≤ k = ltb-false k p (sym (is.applied k) ∙ is_none-of (o.codes k) has) in
          let at : k ≡ p = omega (arith, above, up_to) in
          rw (next, eq-eqb k p at) (record {
            p = p + 1;
            on = omega arith;
            is = record {
              sent = is.sent;
              applied = λ j. with_code-next o.codes k (step o.value (message_at o.sent k)).1
                  (λ i. is.applied i ∙ ap (nat_lt i) (sym at)) j ∙ ap (λ (x : ℕ). nat_lt j (x + 1)) at;
              p_le = omega (arith, below, at);
            };
            here = omega (arith, at);
            same = refl;
          })

  -- all frames of the numbers that are missing from q on
  frames_come : (set : ℕ → Bool) (o : Once V) (n p q count : ℕ) → o.acknowledged ≡ set → Applied o n p
      → ((k : ℕ) → set k ≡ true → k < p) → q ≤ p → n ≡ q + count → count ≤ 8
      → Applied (once_run step taken o (map FrameComes (missing_from set q count))) n n
      × ((once_run step taken o (map FrameComes (missing_from set q count))).acknowledged ≡ set)
  frames_come set o n p q zero acked is within from_ all few =
      let end : p ≡ n = omega (arith, is.p_le, from_, all) in
      (subst (λ (x : ℕ). Applied o n x) end is, acked)
  frames_come set o n p q (suc count) acked is within from_ all few =
      elim (cases_Bool (set q)) [
        | inl there ↦ rw there (frames_come set o n p (suc q) count acked is within
            (let l : q < p = within q there in omega (arith, l)) (omega (arith, all)) (omega (arith, few)))
        | inr not_there ↦
            let more = frame_comes o n p q is from_ (omega (arith, all)) (omega (arith, all, few)) in
            rw not_there (frames_come set (once_next step taken o (FrameComes q)) n more.p (suc q) count
            (more.same ∙ acked) more.is (λ k there. let l : k < p = within k there in omega (arith, l, more.on))
            (omega (arith, more.here)) (omega (arith, all)) (omega (arith, few)))
      ]

  -- all replies to those numbers
  replies_come : (set : ℕ → Bool) (o : Once V) (n q count : ℕ) → Applied o n n
      → ((j : ℕ) → j < q → o.acknowledged j ≡ true) → ((j : ℕ) → set j ≡ true → o.acknowledged j ≡ true) → n ≡ q + count
      → count ≤ 8
      → Applied (once_run step taken o (map ReplyComes (missing_from set q count))) n n
      × ((j : ℕ) → j < n → (once_run step taken o (map ReplyComes (missing_from set q count))).acknowledged j
      ≡ true)
  replies_come set o n q zero is below there all few = (is, λ j l. below j (omega (arith, l, all)))
  replies_come set o n q (suc count) is below there all few =
      elim (cases_Bool (set q)) [
        | inl has ↦
            rw has (replies_come set o n (suc q) count is
            (λ j l. elim (cases_eq j q) [
              | inl e ↦ ap o.acknowledged e ∙ there q has
              | inr ne ↦ below j (omega (arith, l, ne))
            ]) there (omega (arith, all)) (omega (arith, few)))
        | inr has_not ↦
            let applied : is_some (o.codes q) ≡ true = is.applied q ∙ lt-ltb q n (omega (arith, all)) in
            let recent : is_recent (length o.sent) q ≡ true =
            le-leb (length o.sent) (q + 127) (omega (arith, all, few, is.sent)) in
            let o1 : Once V = record o { acknowledged = with_member o.acknowledged q; to_server = [] } in
            let comes : once_next step taken o (ReplyComes q) ≡ o1 = rw (applied, recent) refl in
            let later : List Event = map ReplyComes (missing_from set (suc q) count) in
            rw has_not (subst (λ (x : Once V). Applied (once_run step taken x later) n n
            × ((j : ℕ) → j < n → (once_run step taken x later).acknowledged j ≡ true)) (sym comes)
            (replies_come set o1 n (suc q) count (record { sent = is.sent; applied = is.applied; p_le = is.p_le })
            (λ j l. elim (cases_eq j q) [
              | inl e ↦ with_member-same o.acknowledged q j e
              | inr ne ↦ with_member-true o.acknowledged q j (below j (omega (arith, l, ne)))
            ]) (λ j h. with_member-true o.acknowledged q j (there j h)) (omega (arith, all)) (omega (arith, few))))
      ]

  -- a message fits where there is none
  all_fit : (ks : List ℕ) → AllByRecursion Fits (map FrameComes ks) × AllByRecursion Fits (map ReplyComes ks)
  all_fit [] = (tt, tt)
  all_fit (k ∷ ks) = let rest = all_fit ks in ((tt, rest.0), (tt, rest.1))

  both_fit : (xs ys : List Event) → AllByRecursion Fits xs → AllByRecursion Fits ys → AllByRecursion Fits (xs ++ ys)
  both_fit [] ys a b = b
  both_fit (x ∷ xs) ys a b = (a.0, both_fit xs ys a.1 b)

  pub acknowledged_where_nothing_is_lost : (address : ℕ) (opening : V) (events : List Event)
      → AllByRecursion Fits events → IsDone (after_all_come step taken address opening events)
  acknowledged_where_nothing_is_lost address opening events fit =
      let s : World V = start address opening in
      let w : World V = run step taken address s events in
      let h = lawful_run step taken address opening s [] events fit (lawful_start step taken address opening) in
      let n : ℕ = length w.once.sent in
      let set : ℕ → Bool = w.once.acknowledged in
      let ks : List ℕ = missing set n in
      let last : World V = run step taken address w (all_come ks) in
      let these : ks ≡ missing_from set h.q h.kept.count =
      missing_is set h.q h.kept.count n h.kept.count_is h.kept.below in
      let before : Applied w.once n h.p = record { sent = refl; applied = h.kept.applied; p_le = h.kept.p_le } in
      let framed : Once V = once_run step taken w.once (map FrameComes (missing_from set h.q h.kept.count)) in
      let frames = frames_come set w.once n h.p h.q h.kept.count refl before h.kept.within h.kept.q_le h.kept.count_is
      h.kept.few in
      let replies = replies_come set framed n h.q h.kept.count frames.0
      (λ j l. ap (λ (c : ℕ → Bool). c j) frames.1 ∙ h.kept.below j l)
      (λ j there. ap (λ (c : ℕ → Bool). c j) frames.1 ∙ there) h.kept.count_is h.kept.few in
      let last_once : last.once ≡ once_run step taken framed (map ReplyComes (missing_from set h.q h.kept.count)) =
      run-once address w (all_come ks)
      ∙ ap (λ (xs : List ℕ). once_run step taken w.once (all_come xs)) these
      ∙ once_run-append w.once (map FrameComes (missing_from set h.q h.kept.count))
      (map ReplyComes (missing_from set h.q h.kept.count)) in
      let ended : Once V = once_run step taken framed (map ReplyComes (missing_from set h.q h.kept.count)) in
      let none : missing last.once.acknowledged (length last.once.sent) ≡ [] =
      ap (λ (o : Once V). missing o.acknowledged (length o.sent)) last_once
      ∙ none_missing ended.acknowledged (length ended.sent)
      (λ j l. let under : j < n = omega (arith, l, replies.0.sent) in replies.1 j under) in
      let fits : AllByRecursion Fits (events ++ all_come ks) =
      both_fit events (all_come ks) fit (both_fit (map FrameComes ks) (map ReplyComes ks) (all_fit ks).0
      (all_fit ks).1) in
      let whole = law step taken address opening (events ++ all_come ks) fits in
      let joined : run step taken address s (events ++ all_come ks) ≡ last =
      run-append address s events (all_come ks) in
      let waits : waiting last.server ≡ map (λ k. (counter_of k, message_at last.once.sent k))
      (missing last.once.acknowledged (length last.once.sent)) =
      subst (λ (x : World V). waiting x.server ≡ map (λ k. (counter_of k, message_at x.once.sent k))
      (missing x.once.acknowledged (length x.once.sent))) joined whole.1.outstanding in
      record { acknowledged = none; idle = waits ∙ ap (map (λ k. (counter_of k, message_at last.once.sent k))) none }
