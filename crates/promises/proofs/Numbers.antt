-- What a run tells of its messages, by number.
use Rattle.std.proofs.Common.{◌≡◌, ℕ, zero, suc, ◌+◌, ◌-◌, ◌<◌, ◌≤◌, ◌&&◌, Bool, true, false, cond, List, [], ◌∷◌, ◌++◌}
use Rattle.std.proofs.Common.{length, map, nat_le, Option, Some, None, Ok, ◌⊎◌, inl, inr}
use Rattle.std.proofs.Common.{refl, ap, sym, subst, ◌∙◌, arith, append_assoc, append-nil, length-append}
use Rattle.std.specs.List.{AllByRecursion}
use Rattle.std.specs.Option.{option_or}
use Rattle.std.specs.Io.KnownBytes.{Appends}
use Rattle.std.specs.Prelude.{is_some}
use Rattle.std.proofs.lemmas.Bool.{lt-ltb, le-leb, le-ltb, ltb-true}
use Rattle.std.proofs.lemmas.List.{length-map}
use Rattle.uecp_elements.specs.declared.code.Code.{Code}
use Rattle.uecp_encoder.specs.Target.{Step, Taken}
use Rattle.uecp_link.specs.Counters.{counter_of, next_counter}
use Rattle.uecp_link.specs.Server.{ServerState, Held, counters_waiting, submitted, waiting, waiting_among}
use Rattle.uecp_link.specs.Window.{code_under}
use Rattle.uecp_link.specs.Kept.{last_counter}
use Rattle.uecp_link.proofs.Public.{last_counter-next, Lawful}
use Rattle.uecp_net.specs.declared.sender.Settled.{Settled}
use Rattle.uecp_net.specs.declared.saved.keep.Progress.{Progress}
use Rattle.uecp_net.specs.Sending.{SenderOver, Marks, submitted_all}
use Rattle.uecp_net.specs.Keeping.{KeptServer, kept_of, taking}
use Rattle.uecp_net.specs.SavedSending.{Ended, SendsKept}
use Rattle.kept_jobs.specs.Stops.{TellsKept}
use Rattle.kept_jobs.specs.ServerRun.{Standing, SendsOne}
use Rattle.output_forms.specs.declared.form.Form.{Form}
use Rattle.line_batches.specs.declared.taking.After.{After}
use Rattle.line_batches.specs.declared.taking.After.TheVariants.{GoesOn}
use Rattle.sending.specs.declared.account.Account.TheVariants.{Numbered}
use Rattle.sending.specs.Accounts.{AreReplies}
use Rattle.sending.specs.Run.{Live, Turn, SendsSome, AnswersTold, RepliesOf}
use Rattle.kept_jobs.proofs.Public.{goes}
use Rattle.promises.specs.Ends.{Studio, TakesLines, Tells, is_at_studio, is_of_last, heard_with, studio_after}
use Rattle.promises.specs.Ends.{submitted_each, ends_from, run_ends, Ends}
use Rattle.promises.specs.Doings.{HasServer, IsNumbered, EachIsNumbered, numbers_from, TellsBatch, RunTells, RunsTell}
use Rattle.promises.specs.Doings.{IsUntold, StudioDoes}
use Rattle.promises.proofs.Reaching.{lawful_of}
use Rattle.promises.proofs.EndsMatch.{Matches}
use Rattle.promises.proofs.EachLine.{each_matches}
use Rattle.promises.proofs.Calls.{answers_settled}
use Rattle.promises.proofs.EndLists.{all_append}
use Rattle.promises.proofs.Doings.{all_at, studio_does_lem, taken_so}

-- ---- Each studio is numbered.

module _ {V : Type 0} (step : Step V) (taken : Taken V) where
  pub numbered_lem : EachIsNumbered step taken
  numbered_lem e server before ready shut new events may =
      by (run_ends step taken (ends_from e server before) events)
      (each_matches step taken e server before ready shut new events may)
    where
      by : (x : Ends V) → Matches step taken e before ready shut x → IsNumbered x.studio
      by x m = record {
        last = m.studio.last ∙ lawful.kept.server.last
            ∙ ap (λ (ms : List (List ℕ)). last_counter (length ms)) (sym m.studio.sent);
        heard = λ k from. none k from (x.studio.heard k) (m.studio.heard k);
        told = λ k from. none k from (x.studio.told k) (m.studio.told k);
      }
        where
          lawful : Lawful step taken e.address e.value m.s.world m.acts
          lawful = lawful_of step taken e ready shut m.s.world m.acts m.backed.now

          none : (k : ℕ) → length x.studio.sent ≤ k → (was : Option Code)
              → ((code : Code) → was ≡ Some code → m.s.world.once.codes k ≡ Some code) → was ≡ None
          none k from None own = refl
          none k from (Some code) own =
              let l = ltb-true k lawful.p (sym (lawful.kept.applied k) ∙ ap is_some (own code refl)) in
              let same = ap length m.studio.sent in
              absurd (omega (arith, l, lawful.kept.p_le, same, from))

-- ---- Counters that wait.

counters_on : (hs : List Held) (c : ℕ) (m : List ℕ)
    → map (λ w. w.0) (waiting_among (hs ++ record { counter = c; message = m; marked = false } ∷ []))
    ≡ map (λ w. w.0) (waiting_among hs) ++ c ∷ []
counters_on [] c m = refl
counters_on (h ∷ hs) c m = by h.marked (counters_on hs c m)
  where
    by : (b : Bool)
        → map (λ w. w.0) (waiting_among (hs ++ record { counter = c; message = m; marked = false } ∷ []))
        ≡ map (λ w. w.0) (waiting_among hs) ++ c ∷ []
        → map (λ w. w.0) (cond b (waiting_among (hs ++ record { counter = c; message = m; marked = false } ∷ []))
        ((h.counter, h.message) ∷ waiting_among (hs ++ record { counter = c; message = m; marked = false } ∷ [])))
        ≡ map (λ w. w.0) (cond b (waiting_among hs) ((h.counter, h.message) ∷ waiting_among hs)) ++ c ∷ []
    by true rest = rest
    by false rest = ap (λ (cs : List ℕ). h.counter ∷ cs) rest

next_is : (s : ServerState) (n : ℕ) → s.last ≡ last_counter n → next_counter s.last ≡ last_counter (suc n)
next_is s n is =
    ap next_counter is ∙ last_counter-next n ∙ (let one : n + 1 ≡ suc n = omega arith in ap last_counter one)

counters_so : (s : ServerState) (n : ℕ) (ms : List (List ℕ)) → s.last ≡ last_counter n
    → counters_waiting (submitted_each s ms)
    ≡ counters_waiting s ++ map counter_of (numbers_from n (length ms))
counters_so s n [] is = sym (append-nil (counters_waiting s))
counters_so s n (m ∷ ms) is =
    counters_so (submitted s m) (suc n) ms (next_is s n is)
    ∙ ap (λ (cs : List ℕ). cs ++ map counter_of (numbers_from (suc n) (length ms)))
    (counters_on s.held (next_counter s.last) m
    ∙ ap (λ (c : ℕ). counters_waiting s ++ c ∷ []) (next_is s n is))
    ∙ append_assoc (counters_waiting s) (counter_of n ∷ []) (map counter_of (numbers_from (suc n) (length ms)))

last_so : (s : ServerState) (n : ℕ) (ms : List (List ℕ)) → s.last ≡ last_counter n
    → (submitted_each s ms).last ≡ last_counter (n + length ms)
last_so s n [] is = is ∙ (let none : n ≡ n + 0 = omega arith in ap last_counter none)
last_so s n (m ∷ ms) is =
    last_so (submitted s m) (suc n) ms (next_is s n is)
    ∙ (let one : suc n + length ms ≡ n + suc (length ms) = omega arith in ap last_counter one)

all_numbers : (P : ℕ → Type 0) (first count : ℕ) → ((k : ℕ) → first ≤ k → k < first + count → P k)
    → AllByRecursion P (numbers_from first count)
all_numbers P first zero each = tt
all_numbers P first (suc count) each = (
  each first (omega arith) (omega arith),
  all_numbers P (suc first) count (λ k from below. each k (omega (arith, from)) (omega (arith, below))),
)

length_numbers : (first count : ℕ) → length (numbers_from first count) ≡ count
length_numbers first zero = refl
length_numbers first (suc count) = ap suc (length_numbers (suc first) count)

-- ---- A batch.

module _ {C I O K : Type 0} (opens : C → Option (I × O) → C → Type 0) (closes : C → I → O → C → Type 0)
    (remaining : I → Option (List ℕ)) (contents : O → Option (List ℕ)) (leaves : K → KeptServer → Type 0)
    (is_clean : K → Type 0) (saves fails : K → KeptServer → K → Type 0) where
  abbrev At : Type 0
  At = Standing (SenderOver C I O) K

  abbrev Has : Studio → At → Type 0
  Has u x = HasServer opens closes remaining contents saves fails u x.progress x.runs

  does : StudioDoes opens closes remaining contents saves fails
  does = studio_does_lem opens closes remaining contents saves fails

  -- the lines of a call that goes well
  record Got (form : Form) (are_told : Settled → List ℕ → Type 0) (settled : Settled) (held held' : Option (List ℕ))
      : Type 0 where
    lines : List ℕ
    are : are_told settled lines
    got : Appends held held' lines

  got_of : (form : Form) (are_told : Settled → List ℕ → Type 0) (settled : Settled) (held held' : Option (List ℕ))
      → (lines : List ℕ) × are_told settled lines × TellsKept lines goes held held' goes
      → Got form are_told settled held held'
  got_of form are_told settled held held' (lines, are, inl (got, is)) =
      record { lines = lines; are = are; got = got }
  got_of form are_told settled held held' (lines, are, inr (begins, inl is)) = absurd (cc)
  got_of form are_told settled held held' (lines, are, inr (begins, inr is)) = absurd (cc)

  sends_tell : (form : Form) (batch : List (List ℕ)) (x x' : At) (u : Studio) → Has u x → IsNumbered u
      → u.server.held ≡ [] → length batch ≤ 8 → (settled : Settled)
      → SendsOne opens closes remaining contents leaves is_clean saves fails batch (Ok settled) x x'
      → (lines : List ℕ) × RepliesOf (Numbered form) x'.progress.taken (waiting (submitted_all x.runs
      batch).sender.server)
      settled lines × TellsKept lines goes x.held x'.held goes
      → TellsBatch opens closes remaining contents saves fails form u batch x x'
  sends_tell form batch x x' u has numbered idle few settled one tells =
      let n : ℕ = length u.sent in
      let v : Studio = studio_after u (TakesLines batch) in
      let p : Progress = taking x.progress (length batch) in
      let (between, settles) = does.sends p (submitted_all x.runs batch) x'.runs x.keeper x'.keeper settled
      (subst (λ (q : Progress). SendsKept opens closes remaining contents saves fails q (submitted_all x.runs batch)
      x'.runs x.keeper x'.keeper (Ok settled)) one.progress one.sends) in
      let has_v = does.takes u x.progress x.runs batch has in
      let (marks, so, told) = does.settles v p (submitted_all x.runs batch) x'.runs between x'.keeper settled has_v
      settles in
      let old : ServerState = (submitted_all x.runs batch).sender.server in
      let server : ServerState = x'.runs.sender.server in
      let freed = settles.0.freed in
      let all : length v.sent ≡ n + length batch = length-append u.sent batch in
      let was : x.runs.sender.server.last ≡ last_counter n =
      ap (λ (d : ServerState). d.last) (sym has.server) ∙ numbered.last in
      let none : counters_waiting x.runs.sender.server ≡ [] =
      ap (λ (d : ServerState). counters_waiting d) (sym has.server)
      ∙ ap (λ (hs : List Held). map (λ w. w.0) (waiting_among hs)) idle in
      let counters : counters_waiting old ≡ map counter_of (numbers_from n (length batch)) =
      ap counters_waiting (taken_so x.runs batch)
      ∙ counters_so x.runs.sender.server n batch was
      ∙ ap (λ (cs : List ℕ). cs ++ map counter_of (numbers_from n (length batch))) none in
      let codes = does.tells v old marks settled.codes.items (numbers_from n (length batch)) told counters
      (all_numbers (IsUntold v) n (length batch)
      (λ k from below. record {
        of_last = of_last (length v.sent) k (omega (arith, all, below)) (omega (arith, all, from, few));
        unheard = numbered.heard k from;
        untold = numbered.told k from;
      })) in
      let as_many : length settled.codes.items ≡ length batch =
      sym (length-map settled.codes.items Some) ∙ ap length codes
      ∙ length-map (numbers_from n (length batch)) _ ∙ length_numbers n (length batch) in
      let taken_now : x'.progress.taken ≡ x.progress.taken + length batch =
      ap (λ (q : Progress). q.taken) one.progress in
      let taken_was : u.file.taken ≡ x.progress.taken = ap (λ (f : KeptServer). f.taken) has.file in
      let first : x'.progress.taken + 1 - length settled.codes.items ≡ u.file.taken + 1 =
      omega (arith, as_many, taken_now, taken_was) in
      let got = got_of form (RepliesOf (Numbered form) x'.progress.taken (waiting old)) settled x.held x'.held tells in
      record {
        events = TakesLines batch ∷ (so.over ++ Tells ∷ []);
        at = (
          refl,
          all_append (λ event. is_at_studio event ≡ true) so.over (Tells ∷ []) (all_at so.over so.on) (refl, tt),
        );
        behind = record v {
          server = server;
          file = kept_of p server;
          is_saved = true;
          heard = heard_with (length v.sent) v.heard marks;
          told = λ k. option_or (v.told k) (heard_with (length v.sent) v.heard marks k);
        };
        leads = so.leads;
        has = record {
          server = refl;
          file = ap (λ (q : Progress). kept_of q server) (sym one.progress);
        };
        sent = refl;
        numbered = record {
          last = ap (λ (d : ServerState). d.last) freed
              ∙ ap (λ (d : ServerState). d.last) (taken_so x.runs batch)
              ∙ last_so x.runs.sender.server n batch was ∙ ap last_counter (sym all);
          heard = λ k from. unheard (length v.sent) k u.heard marks from
              (numbered.heard k (omega (arith, all, from)));
          told = λ k from.
              ap (λ (c : Option Code). option_or c (heard_with (length v.sent) v.heard marks k))
              (numbered.told k (omega (arith, all, from)))
              ∙ unheard (length v.sent) k u.heard marks from (numbered.heard k (omega (arith, all, from)));
        };
        idle = ap (λ (d : ServerState). d.held) freed;
        settled = settled;
        codes = codes;
        lines = got.lines;
        are = subst (λ (i : ℕ). AreReplies (Numbered form) i (waiting old) settled got.lines) first got.are;
        got = got.got;
      }
    where
      of_last : (len k : ℕ) → k < len → len ≤ k + 8 → is_of_last len k ≡ true
      of_last len k below last =
          ap (λ (b : Bool). b && nat_le len (k + 8)) (lt-ltb k len below) ∙ le-leb len (k + 8) last

      unheard : (len k : ℕ) (heard : ℕ → Option Code) (marks : Marks) → len ≤ k → heard k ≡ None
          → heard_with len heard marks k ≡ None
      unheard len k heard marks from none =
          ap (λ (b : Bool). cond (b && nat_le len (k + 8))
          (option_or (heard k) (code_under (counter_of k) marks)) (heard k)) (le-ltb k len from)
          ∙ none

module _ {T C I O K : Type 0} (takes : (messages : List (List ℕ)) → After → T → T → Type 0)
    (opens : C → Option (I × O) → C → Type 0) (closes : C → I → O → C → Type 0)
    (remaining : I → Option (List ℕ)) (contents : O → Option (List ℕ)) (leaves : K → KeptServer → Type 0)
    (is_clean : K → Type 0) (saves fails : K → KeptServer → K → Type 0) where
  abbrev Stands : Type 0
  Stands = Standing (SenderOver C I O) K

  abbrev Ran : (form : Form) → ℕ → Studio → Stands → Stands → Type 0
  Ran form turns u x x' = RunTells takes opens closes remaining contents leaves is_clean saves fails form turns u x x'

  turn_tells : (form : Form) (u : Studio) (x x' : Live T (SenderOver C I O) K) (after : After)
      → HasServer opens closes remaining contents saves fails u x.sends.progress x.sends.runs → IsNumbered u
      → u.server.held ≡ []
      → (turn : Turn takes opens closes remaining contents leaves is_clean saves fails (Numbered form) x x' after goes)
      → length turn.messages ≤ 8
      → (x'.sends ≡ x.sends)
      ⊎ TellsBatch opens closes remaining contents saves fails form u turn.messages x.sends x'.sends
  turn_tells form u x x' after has numbered idle turn few = by turn.sends
    where
      by : SendsSome opens closes remaining contents leaves is_clean saves fails (Numbered form) turn.messages x.sends
          x'.sends x.applied x'.applied x.unknown x'.unknown goes
          → (x'.sends ≡ x.sends)
          ⊎ TellsBatch opens closes remaining contents saves fails form u turn.messages x.sends x'.sends
      by (inl (none, same, applied, unknown, on)) = inl same
      by (inr (some, (ended, one, tells, applied, unknown))) = inr (went ended one tells)
        where
          went : (ended : Ended)
              → SendsOne opens closes remaining contents leaves is_clean saves fails turn.messages ended x.sends
              x'.sends
              → AnswersTold (Numbered form) (RepliesOf (Numbered form) x'.sends.progress.taken
              (waiting (submitted_all x.sends.runs turn.messages).sender.server)) x'.sends.runs.sender.server.counts
              ended x.sends.held x'.sends.held goes
              → TellsBatch opens closes remaining contents saves fails form u turn.messages x.sends x'.sends
          went ended one tells =
              let (settled, is) = answers_settled form _ x'.sends.runs.sender.server.counts ended x.sends.held
              x'.sends.held goes tells refl in
              sends_tell opens closes remaining contents leaves is_clean saves fails form turn.messages x.sends
              x'.sends u
              has numbered idle few settled
              (subst (λ (d : Ended). SendsOne opens closes remaining contents leaves is_clean saves fails
              turn.messages d
              x.sends x'.sends) is one)
              (subst (λ (d : Ended). AnswersTold (Numbered form) (RepliesOf (Numbered form) x'.sends.progress.taken
              (waiting (submitted_all x.sends.runs turn.messages).sender.server)) x'.sends.runs.sender.server.counts
              d x.sends.held x'.sends.held goes) is tells)

  pub runs_tell_lem : RunsTell takes opens closes remaining contents leaves is_clean saves fails
  runs_tell_lem form zero u x x' has numbered idle few is = record {
    behind = u;
    tells = (refl, ap (λ (z : Live T (SenderOver C I O) K). z.sends) is);
    has = subst (λ (z : Live T (SenderOver C I O) K).
        HasServer opens closes remaining contents saves fails u z.sends.progress z.sends.runs) (sym is) has;
    numbered = numbered;
    idle = idle;
  }
  runs_tell_lem form (suc turns) u x x' has numbered idle few (y, on, turn) =
      let ran = runs_tell_lem form turns u x y has numbered idle few on in
      by ran (turn_tells form ran.behind y x' GoesOn ran.has ran.numbered ran.idle turn
      (few turn.messages GoesOn y.takes x'.takes turn.taken))
    where
      by : (ran : Ran form turns u x.sends y.sends)
          → ((x'.sends ≡ y.sends)
          ⊎ TellsBatch opens closes remaining contents saves fails form ran.behind turn.messages y.sends x'.sends)
          → Ran form (suc turns) u x.sends x'.sends
      by ran (inl same) = record {
        behind = ran.behind;
        tells = (ran.behind, y.sends, ran.tells, inl (refl, same));
        has = subst (λ (z : Stands).
            HasServer opens closes remaining contents saves fails ran.behind z.progress z.runs) (sym same) ran.has;
        numbered = ran.numbered;
        idle = ran.idle;
      }
      by ran (inr told) = record {
        behind = told.behind;
        tells = (ran.behind, y.sends, ran.tells, inr (turn.messages, told, refl));
        has = told.has;
        numbered = told.numbered;
        idle = told.idle;
      }
