-- Events that were put behind what waits, and bytes that were written of it.
use Rattle.std.proofs.Common.{◌≡◌, ℕ, ◌+◌, List, [], ◌∷◌, ◌++◌, length, take, drop, flat_map, ◌∙◌, ap, sym, refl, arith}
use Rattle.std.proofs.Common.{Option, Some, None, Result, Err, OnOk, subst, false, ◌<◌, ◌≤◌, ◌⊎◌, inl, inr}
use Rattle.std.specs.Io.KnownBytes.{append_known}
use Rattle.std.proofs.lemmas.List.{append-nil, append_assoc, take-append-drop, length-append, length_push}
use Rattle.std.proofs.lemmas.List.{length-take-le}
use Rattle.std.proofs.lemmas.Grind.{flat_map-append}
use Rattle.page.specs.declared.clients.client.Phase.{Phase}
use Rattle.page.specs.declared.clients.client.Phase.TheVariants.{Asking, Live, Closing}
use Rattle.page.specs.declared.guests.connection.Passed.TheVariants.{Bytes, NotNow, Gone}
use Rattle.page.specs.Events.{Event, Past, kept, from}
use Rattle.page.specs.Sending.{Standing, FewWait, IsLive, Delivers, Writes, owed, event_bytes}
use Rattle.page.specs.Talk.{Talk, Gets}
use Rattle.page.specs.Delivering.{IsSent, IsCaughtUp, IsServed, WritesOnce}

pub nothing_sent : (past : Past) (x : Standing) → Delivers past [] [] x x
nothing_sent past x = record {
  owed_before = refl;
  due = omega arith;
  output = sym (append-nil x.output);
  writing = refl;
}

pub one_more : (past : Past) (events : List Event) (x y z : Standing) (e : Event) → Delivers past events [] x y
    → owed past y ≡ e ∷ from (y.due + 1) (kept past) → z.due ≡ y.due + 1
    → z.output ≡ y.output ++ event_bytes y.writing e → z.writing ≡ y.writing → Delivers past (events ++ e ∷ []) [] x z
one_more past events x y z e so_far next due output writing =
    let f = event_bytes x.writing in
    let long : length (events ++ e ∷ []) ≡ length events + 1 = length_push events e in
    record {
      owed_before = so_far.owed_before ∙ ap (λ es. events ++ es) (next ∙ ap (λ n. e ∷ from n (kept past)) (sym due))
          ∙ sym (append_assoc events (e ∷ []) (owed past z));
      due = due ∙ ap (λ n. n + 1) so_far.due ∙ omega (arith, long);
      output = output ∙ ap (λ w. y.output ++ event_bytes w e) so_far.writing ∙ ap (λ o. o ++ f e) so_far.output
          ∙ append_assoc x.output (flat_map f events) (f e)
          ∙ ap (λ o. x.output ++ o) (ap (λ o. flat_map f events ++ o) (sym (append-nil (f e)))
          ∙ sym (flat_map-append f events (e ∷ [])));
      writing = writing ∙ so_far.writing;
    }

then_more : (past : Past) (first second : List Event) (written more : List ℕ) (x y z : Standing)
    → Delivers past first written x y → Delivers past second more y z
    → Delivers past (first ++ second) (written ++ more) x z
then_more past first second written more x y z so_far then =
    let f = event_bytes x.writing in
    let long : length (first ++ second) ≡ length first + length second = length-append first second in
    record {
      owed_before = so_far.owed_before ∙ ap (λ es. first ++ es) then.owed_before
          ∙ sym (append_assoc first second (owed past z));
      due = then.due ∙ ap (λ n. n + length second) so_far.due ∙ omega (arith, long);
      output = append_assoc written more z.output
          ∙ ap (λ o. written ++ o) (then.output ∙ ap (λ w. y.output ++ flat_map (event_bytes w) second)
          so_far.writing) ∙ sym (append_assoc written y.output (flat_map f second))
          ∙ ap (λ o. o ++ flat_map f second) so_far.output
          ∙ append_assoc x.output (flat_map f first) (flat_map f second)
          ∙ ap (λ o. x.output ++ o) (sym (flat_map-append f first second));
      writing = then.writing ∙ so_far.writing;
    }

writes_then : (written more : List ℕ) (x y z : Standing) → Writes written x y → Writes more y z
    → Writes (written ++ more) x z
writes_then written more x y z one two = record {
  output = append_assoc written more z.output ∙ ap (λ o. written ++ o) two.output ∙ one.output;
  same = two.same ∙ ap (λ (s : Standing). record s { output = z.output }) one.same;
}

both_none : (first second : List Event) → first ≡ [] → second ≡ [] → first ++ second ≡ []
both_none first second one two = ap (λ es. es ++ second) one ∙ two

-- ---- one turn
pub sent_none : (past : Past) (x : Standing) → IsSent past [] [] x x
sent_none past x = record {
  phase = refl;
  live = λ live. nothing_sent past x;
  idle = λ other. (refl, record { output = refl; same = refl });
}

pub sent_then : (past : Past) (first second : List Event) (written more : List ℕ) (x y z : Standing)
    → IsSent past first written x y → IsSent past second more y z
    → IsSent past (first ++ second) (written ++ more) x z
sent_then past first second written more x y z one two = record {
  phase = two.phase ∙ one.phase;
  live = λ live. then_more past first second written more x y z (one.live live) (two.live (one.phase ∙ live));
  idle = λ other.
      let h = one.idle other in
      let k = two.idle (λ live. other (sym one.phase ∙ live)) in
      (both_none first second h.0 k.0, writes_then written more x y z h.1 k.1);
}

live_or_not : (p : Phase) → (p ≡ Live) ⊎ (p ≡ Live → ⊥)
live_or_not Asking = inr (λ e. cc e)
live_or_not Live = inl refl
live_or_not Closing = inr (λ e. cc e)

pub is_live : (x : Standing) → IsLive x ⊎ (IsLive x → ⊥)
is_live x = live_or_not x.phase

-- events were put behind what waits, as `catch_up` does
pub sent_of_caught : (past : Past) (x x' : Standing) → (IsLive x → (events : List Event) × Delivers past events [] x x')
    → x'.phase ≡ x.phase → ((IsLive x → ⊥) → x' ≡ x) → (events : List Event) × IsSent past events [] x x'
sent_of_caught past x x' sends phase idle = elim (is_live x) [
  | inl live ↦
      let d = sends live in
      (d.0, record { phase = phase; live = λ _. d.1; idle = λ other. absurd (other live) })
  | inr other ↦
      let P : Standing → Type 0 = λ s. IsSent past [] [] x s in
      ([], subst P (sym (idle other)) (sent_none past x))
]

-- bytes of what waits were written
sent_of_written : (past : Past) (n : ℕ) (x x' : Standing) → x' ≡ record x { output = drop n x.output }
    → IsSent past [] (take n x.output) x x'
sent_of_written past n x x' is =
    let y : Standing = record x { output = drop n x.output } in
    let P : Standing → Type 0 = λ s. IsSent past [] (take n x.output) x s in
    let output : take n x.output ++ drop n x.output ≡ x.output = take-append-drop n x.output in
    subst P (sym is) (record {
      phase = refl;
      live = λ live. record {
        owed_before = refl;
        due = omega arith;
        output = output ∙ sym (append-nil x.output);
        writing = refl;
      };
      idle = λ other. (refl, record { output = output; same = refl });
    })

-- ---- what was said meanwhile
known_none : (known : Option (List ℕ)) → append_known known [] ≡ known
known_none None = refl
known_none (Some xs) = ap Some (append-nil xs)

known_then : (known : Option (List ℕ)) (bytes more : List ℕ)
    → append_known (append_known known bytes) more ≡ append_known known (bytes ++ more)
known_then None bytes more = refl
known_then (Some xs) bytes more = ap Some (append_assoc xs bytes more)

pub gets_none : (said : Talk) → Gets [] said said
gets_none said =
    ap (λ known. record said { written = known }) (sym (known_none said.written))

gets_then : (bytes more : List ℕ) (a b c : Talk) → Gets bytes a b → Gets more b c → Gets (bytes ++ more) a c
gets_then bytes more a b c one two =
    two ∙ ap (λ (t : Talk). record t { written = append_known t.written more; takes_now = c.takes_now }) one
    ∙ ap (λ known. record a { written = known; takes_now = c.takes_now }) (known_then a.written bytes more)

-- what came of so many turns, at each of which a byte at least was written
pub record Since (past : Past) (said said' : Talk) (x x' : Standing) (count : ℕ) : Type 0 where
  pub events : List Event
  pub written : List ℕ
  pub gets : Gets written said said'
  pub sent : IsSent past events written x x'
  pub long : count ≤ length written

pub since_begun : (past : Past) (said : Talk) (x : Standing) → Since past said said x x 0
since_begun past said x =
    record { events = []; written = []; gets = gets_none said; sent = sent_none past x; long = omega arith }

pub since_caught : (past : Past) (said said' : Talk) (x y z : Standing) (count : ℕ) → Since past said said' x y count
    → (IsLive y → (events : List Event) × Delivers past events [] y z) → z.phase ≡ y.phase
    → ((IsLive y → ⊥) → z ≡ y) → Since past said said' x z count
since_caught past said said' x y z count h sends phase idle =
    let caught = sent_of_caught past y z sends phase idle in
    let same : h.written ++ [] ≡ h.written = append-nil h.written in
    let P : List ℕ → Type 0 = λ w. IsSent past (h.events ++ caught.0) w x z in
    record {
      events = h.events ++ caught.0;
      written = h.written;
      gets = h.gets;
      sent = subst P same (sent_then past h.events caught.0 h.written [] x y z h.sent caught.1);
      long = h.long;
    }

pub since_written : (past : Past) (a b c : Talk) (x y z : Standing) (count n : ℕ) → Since past a b x y count
    → WritesOnce b c y z (Bytes n) → Since past a c x z (count + n)
since_written past a b c x y z count n h once =
    let bytes = take n y.output in
    let is : length bytes ≡ n = length-take-le n y.output once.1 in
    let all : length (h.written ++ bytes) ≡ length h.written + length bytes = length-append h.written bytes in
    record {
      events = h.events ++ [];
      written = h.written ++ bytes;
      gets = gets_then h.written bytes a b c h.gets once.0;
      sent = sent_then past h.events [] h.written bytes x y z h.sent (sent_of_written past n y z once.2);
      long = omega (arith, h.long, is, all);
    }

-- at least so many
pub since_fewer : (past : Past) (a b : Talk) (x y : Standing) (count fewer : ℕ) → Since past a b x y count
    → fewer ≤ count → Since past a b x y fewer
since_fewer past a b x y count fewer h less = record {
  events = h.events;
  written = h.written;
  gets = h.gets;
  sent = h.sent;
  long = omega (arith, h.long, less);
}

-- it took none now, or none any more
pub gets_kept : (bytes : List ℕ) (a b c : Talk) → Gets bytes a b → c ≡ b → Gets bytes a c
gets_kept bytes a b c one is =
    let P : Talk → Type 0 = λ t. Gets bytes a t in
    subst P (sym is) one

pub gets_not_now : (bytes : List ℕ) (a b c : Talk) → Gets bytes a b → c ≡ record b { takes_now = false }
    → Gets bytes a c
gets_not_now bytes a b c one is =
    let t : Talk = record b { takes_now = false } in
    let P : Talk → Type 0 = λ t. Gets bytes a t in
    subst P (sym is) (ap (λ (t : Talk). record t { takes_now = false }) one)

no_bytes : (xs : List ℕ) → length xs ≡ 0 → xs ≡ []
no_bytes [] none = refl
no_bytes (x ∷ xs) none = absurd (omega (arith, none))

-- ---- how a turn ends
abbrev pub Told : Past → (a c : Talk) → (x z : Standing) → (Ends : List ℕ → Type 0) → Type 0
Told past a c x z Ends = (events : List Event) × (written : List ℕ) × Gets written a c
    × IsSent past events written x z × Ends written

-- it takes no more now
pub told_not_now : (past : Past) (a b c : Talk) (x y z : Standing) (count : ℕ) → Since past a b x y count
    → IsCaughtUp past y → WritesOnce b c y z NotNow → Told past a c x z (λ written. IsServed past written c z)
told_not_now past a b c x y z count h caught once =
    let P : Standing → Type 0 = λ s. IsSent past h.events h.written x s in
    let Q : Standing → Type 0 = λ s. IsCaughtUp past s in (
      h.events,
      h.written,
      gets_not_now h.written a b c h.gets once.0,
      subst P (sym once.1) h.sent,
      (subst Q (sym once.1) caught, inr (inl (ap (λ (t : Talk). t.takes_now) once.0))),
    )

-- it takes none any more
pub told_gone : (past : Past) (a b c : Talk) (x y z : Standing) (count : ℕ) → Since past a b x y count
    → WritesOnce b c y z Gone → Told past a c x z (λ written. Unit {0})
told_gone past a b c x y z count h once =
    let P : Standing → Type 0 = λ s. IsSent past h.events h.written x s in
    (h.events, h.written, gets_kept h.written a b c h.gets once.0, subst P (sym once.1) h.sent, tt)

-- one more event waits
pub more_wait : (x y : Standing) (e : Event) → y.output ≡ x.output ++ event_bytes x.writing e → y.writing ≡ x.writing
    → length x.output < 65536 → FewWait y
more_wait x y e output writing few =
    (x.output, e, output ∙ ap (λ w. x.output ++ event_bytes w e) (sym writing), few)

-- nothing waits
pub told_all : (past : Past) (a b : Talk) (x y : Standing) (count : ℕ) → Since past a b x y count
    → IsCaughtUp past y → length y.output ≡ 0 → Told past a b x y (λ written. IsServed past written b y)
told_all past a b x y count h caught none =
    (h.events, h.written, h.gets, h.sent, (caught, inl (no_bytes y.output none)))

-- 16 writes were made
pub told_long : (past : Past) (a b : Talk) (x y : Standing) (count : ℕ) → Since past a b x y count
    → IsCaughtUp past y → 16 ≤ count → Told past a b x y (λ written. IsServed past written b y)
told_long past a b x y count h caught most = (
  h.events,
  h.written,
  h.gets,
  h.sent,
  (caught, inr (inr (let long : 16 ≤ length h.written = omega (arith, h.long, most) in long))),
)

pub told_so_far : (past : Past) (a b : Talk) (x y : Standing) (count : ℕ) → Since past a b x y count
    → Told past a b x y (λ written. Unit {0})
told_so_far past a b x y count h = (h.events, h.written, h.gets, h.sent, tt)

pub on_err : {T E : Type 0} (r : Result T E) (e : E) (past : Past) (a b : Talk) (x y : Standing)
    (Ends : List ℕ → Type 0) → r ≡ Err e → Told past a b x y (λ written. Unit {0})
    → Told past a b x y (λ written. OnOk r (Ends written))
on_err {T} {E} r e past a b x y Ends is told =
    let P : Result T E → Type 0 = λ r. Told past a b x y (λ written. OnOk r (Ends written)) in
    subst P (sym is) told
