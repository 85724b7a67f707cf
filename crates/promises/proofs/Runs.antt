-- What a crash leaves of senders that run one after another, and of a whole run.
use Rattle.std.proofs.Common.{arith, ◌≡◌, ◌⊎◌, ℕ, zero, suc, ◌+◌, ◌-◌, ◌≤◌, Bool, true, false, ◌||◌, not, List, []}
use Rattle.std.proofs.Common.{◌++◌}
use Rattle.std.proofs.Common.{length, Option, Ok, Err, refl, sym, ap, subst, ◌∙◌, inl, inr, append-nil}
use Rattle.std.specs.Prelude.{Result}
use Rattle.uecp_text.specs.declared.run_fault.RunFault.{RunFault}
use Rattle.uecp_link.specs.Server.{ServerState, idle_at, waiting}
use Rattle.uecp_net.specs.declared.saved.keep.Progress.{Progress}
use Rattle.uecp_net.specs.Keeping.{KeptServer, kept_of, IsKept}
use Rattle.kept_jobs.specs.declared.stop.KeptStop.{KeptStop}
use Rattle.kept_jobs.specs.declared.stop.KeptStop.TheVariants.{Run, StateFailed}
use Rattle.kept_jobs.specs.Stops.{Went, Then, TellsKept, stop_status}
use Rattle.kept_jobs.specs.ServerRun.{Standing, sending, is_due}
use Rattle.kept_jobs.specs.ServerKept.{HasTaken}
use Rattle.kept_jobs.proofs.Public.{goes, stopped, goes_not_stopped, same_status, HasBegun, LeftBegun}
use Rattle.line_batches.specs.declared.intake.Given.{Given}
use Rattle.line_batches.specs.declared.taking.After.{After}
use Rattle.line_batches.specs.declared.taking.After.TheVariants.{GoesOn, Ends}
use Rattle.line_batches.specs.Intake.{Intake, TakesLines, messages_in}
use Rattle.sending.specs.declared.options.LiveOptions.{LiveOptions}
use Rattle.output_forms.specs.declared.form.Form.{Form}
use Rattle.sending.specs.Beginning.{TellsTaken, BeginsAnew, BeginsAnewIf}
use Rattle.sending.specs.Forms.{given_up_in, unknown_in}
use Rattle.sending.specs.Run.{Renews, ended_as}
use Rattle.promises.proofs.OverLines.{Live, RunsOne, RunsAgain, RunsFor, LivesFrom}
use Rattle.promises.specs.Taken.{Pauses, ComesToEnd, Passes}
use Rattle.promises.specs.Left.{new_kept, OutlivesLive}
use Rattle.promises.proofs.LiveLines.{messages_append, messages_count, lines_on, ends_on, passes_on, Stands}
use Rattle.promises.proofs.LiveLines.{stands_on, stands_pausing}
use Rattle.promises.proofs.RunMessages.{of_run, of_one, of_again, of_senders}
use Rattle.promises.proofs.Statuses.{not_so, telling_status, taking_status}
use Rattle.promises.proofs.Begun.{begun_so, has_begun}
use Rattle.promises.proofs.Senders.{Left, ran, ran_out}

was_joined : (join joined : Bool) → (join || not joined) ≡ false → joined ≡ true
was_joined true joined is = absurd (let no : true ≡ false = is in cc)
was_joined false true is = refl
was_joined false false is = absurd (let no : true ≡ false = is in cc)

abbrev idle_kept : (taken : ℕ) → (joined : Bool) → KeptServer
idle_kept taken joined = record { last = 0; held = []; taken = taken; joined = joined }

-- what is kept of a new server that is not joined
new_is : (p : Progress) (s : ServerState) (address n : ℕ) → s ≡ idle_at address → p.taken ≡ n → p.joined ≡ false
    → kept_of p s ≡ new_kept n
new_is p s address n new taken joined =
    ap (λ r. kept_of p r) new ∙ ap (λ t. idle_kept t p.joined) taken ∙ ap (λ j. idle_kept n j) joined

-- what is kept of a server that is joined
joined_is : (s : ServerState) (m n : ℕ) → m ≡ n
    → kept_of (record { taken = m; joined = true }) s ≡ kept_of (record { taken = n; joined = true }) s
joined_is s m n same = ap (λ t. kept_of (record { taken = t; joined = true }) s) same

none_more : (n : ℕ) → n ≡ n + 0
none_more n = omega arith

module _ {C I O K : Type 0} (opens : C → Option (I × O) → C → Type 0) (closes : C → I → O → C → Type 0)
    (remaining : I → Option (List ℕ)) (contents : O → Option (List ℕ)) (leaves : K → KeptServer → Type 0)
    (is_clean : K → Type 0) (saves fails : K → KeptServer → K → Type 0) where
  abbrev Was : Type 0
  Was = Standing ServerState K

  abbrev LiveWas : Type 0
  LiveWas = Live ServerState K

  abbrev IsKeptOf : Was → Type 0
  IsKeptOf x = IsKept (leaves x.keeper) x.progress x.runs

  -- where a run stands that goes on with a new server
  abbrev anew_at : LiveWas → Was → LiveWas
  anew_at x y = record { sends = y; takes = x.takes; applied = false; unknown = 0; behind = x.behind }

  -- ---- The beginning.

  anew_status : (form : Form) (x y : Was) (stop : KeptStop) → BeginsAnew leaves is_clean saves fails form x y (stopped
      stop)
      → stop_status stop ≡ 3
  anew_status form x y stop anew_so = by anew_so.saved
    where
      by : (saves x.keeper (kept_of y.progress y.runs) y.keeper
          × TellsKept (given_up_in form (length (waiting x.runs))) (Ok tt) x.held y.held (stopped stop))
          ⊎ (fails x.keeper (kept_of y.progress y.runs) y.keeper × (y.held ≡ x.held)
          × (stopped stop ≡ stopped StateFailed)) → stop_status stop ≡ 3
      by (inl (saved, tells)) =
          telling_status (given_up_in form (length (waiting x.runs))) x.held y.held stop tells
      by (inr (failed, same, is)) = same_status stop StateFailed refl is

  begin_status : (form : Form) (due : Bool) (x y : Was) (stop : KeptStop)
      → Then (TellsTaken form) (BeginsAnewIf leaves is_clean saves fails form due) x y (stopped stop) → stop_status stop
      ≡ 3
  begin_status form false x y stop (inl (w, told, (same, is))) = not_so stop is
  begin_status form true x y stop (inl (w, told, anew_so)) = anew_status form w y stop anew_so
  begin_status form due x y stop (inr (why, (same, tells), is)) =
      same_status stop why (telling_status _ x.held y.held why tells) is

  -- ---- Senders.

  module _ (options : LiveOptions) (x0 : Was) (due : Bool) (due_is : is_due options.join x0.progress ≡ due) where
    abbrev OutlivesRun : (messages : ℕ) → KeptServer → Type 0
    OutlivesRun = OutlivesLive opens closes remaining contents saves fails options x0.progress x0.runs

    outlives_more : (m n : ℕ) (left : KeptServer) → m ≤ n → OutlivesRun m left → OutlivesRun n left
    outlives_more m n left few (inl is) = inl is
    outlives_more m n left few (inr (inl (earlier, began, within, is))) =
        inr (inl (earlier, began, (let w : earlier ≤ n = omega arith in w), is))
    outlives_more m n left few (inr (inr sent)) =
        inr (inr (record {
          earlier = sent.earlier;
          first = sent.first;
          at_first = sent.at_first;
          calls = sent.calls;
          lives = sent.lives;
          more = sent.more;
          taken = sent.taken;
          most = (let within = sent.most in omega (arith, few, within));
        }))

    abbrev LeftOf : (due : Bool) → (most : ℕ) → (loan : ℕ) → C → Was → KeptServer → Type 0
    LeftOf by most loan c w left =
        Left opens closes remaining contents leaves is_clean saves fails options by most
        (sending opens closes remaining contents leaves is_clean saves fails c loan options.limits w) left

    -- what is left of the first sender is left of the run
    left_at_first : (by : Bool) → is_due options.join x0.progress ≡ by → (x : Was)
        → HasBegun leaves is_clean saves fails by x0 x → (most loan : ℕ) (c : C) (left : KeptServer)
        → LeftOf by most loan c x left → OutlivesRun most left
    left_at_first false is_so x (runs, progress) most loan c left (inl is) =
        inl (is ∙ ap (λ p. kept_of p x.runs) progress ∙ ap (λ r. kept_of x0.progress r) runs)
    left_at_first true is_so x (runs, progress) most loan c left (inl is) =
        inr (inl (
          0,
          inl (is_so, refl),
          (let w : 0 ≤ most = omega arith in w),
          is ∙ new_is x.progress x.runs x0.runs.address (x0.progress.taken + 0) runs
              (ap (λ (p : Progress). p.taken) progress ∙ none_more x0.progress.taken)
              (ap (λ (p : Progress). p.joined) progress),
        ))
    left_at_first false is_so x (runs, progress) most loan c left (inr (first, is_first, chain)) =
        let first_is : first ≡ kept_of x0.progress x0.runs =
        is_first ∙ ap (λ p. kept_of p x.runs) progress ∙ ap (λ r. kept_of x0.progress r) runs in
        inr (inr (record {
          earlier = 0;
          first = first;
          at_first = inl (is_so, refl, first_is);
          calls = chain.calls;
          lives = chain.lives;
          more = chain.more;
          taken = (let a = chain.taken in let b = ap (λ (k : KeptServer). k.taken) first_is in omega (arith, a, b));
          most = (let a = chain.within in omega (arith, a));
        }))
    left_at_first true is_so x (runs, progress) most loan c left (inr (first, (made, told, makes, is_first), chain)) =
        let same : x.progress.taken ≡ x0.progress.taken + 0 =
        ap (λ (p : Progress). p.taken) progress ∙ none_more x0.progress.taken in
        let first_is : first ≡ kept_of (record { taken = x0.progress.taken + 0; joined = true }) made.sender.server =
        is_first ∙ joined_is made.sender.server x.progress.taken (x0.progress.taken + 0) same in
        inr (inr (record {
          earlier = 0;
          first = first;
          at_first = inr (
            inl (is_so, refl),
            (
              (sending opens closes remaining contents leaves is_clean saves fails c loan options.limits x).runs,
              made,
              told,
              runs,
              makes,
              first_is,
            ),
          );
          calls = chain.calls;
          lives = chain.lives;
          more = chain.more;
          taken = (let a = chain.taken in let b = ap (λ (k : KeptServer). k.taken) first_is in omega (arith, a, b));
          most = (let a = chain.within in omega (arith, a));
        }))

    -- what is left of one that runs with a new server is left of the run
    left_again : (w : Was) (earlier : ℕ) → options.rejoin ≡ true → w.runs ≡ idle_at x0.runs.address
        → w.progress.taken ≡ x0.progress.taken + earlier → w.progress.joined ≡ false → (most loan : ℕ) (c : C)
        (left : KeptServer) → LeftOf true most loan c w left → OutlivesRun (earlier + most) left
    left_again w earlier rejoin runs taken not_yet most loan c left (inl is) =
        inr (inl (
          earlier,
          inr rejoin,
          (let within : earlier ≤ earlier + most = omega arith in within),
          is ∙ new_is w.progress w.runs x0.runs.address (x0.progress.taken + earlier) runs taken not_yet,
        ))
    left_again w earlier rejoin runs taken not_yet most loan c left
        (inr (first, (made, told, makes, is_first), chain)) =
        let first_is : first ≡ kept_of (record { taken = x0.progress.taken + earlier; joined = true })
        made.sender.server =
        is_first ∙ joined_is made.sender.server w.progress.taken (x0.progress.taken + earlier) taken in
        inr (inr (record {
          earlier = earlier;
          first = first;
          at_first = inr (
            inr rejoin,
            (
              (sending opens closes remaining contents leaves is_clean saves fails c loan options.limits w).runs,
              made,
              told,
              runs,
              makes,
              first_is,
            ),
          );
          calls = chain.calls;
          lives = chain.lives;
          more = chain.more;
          taken = (let a = chain.taken in let b = ap (λ (k : KeptServer). k.taken) first_is in omega (arith, a, b));
          most = (let a = chain.within in omega (arith, a));
        }))

    -- ---- One sender after another.

    -- one sender, with a server that stands so, whose lines gave these messages
    record One (by : Bool) (messages : List (List ℕ)) (x x' : LiveWas) (went : Went) : Type 0 where
      pub lines : List (List ℕ × Given)
      pub mid : Intake
      pub takes : TakesLines options.reading.input lines x.takes mid
      pub give : messages_in lines ≡ messages
      pub passes : Passes options.reading.strict lines
      pub pauses : Pauses options.reading.input mid x'.takes
      pub done : goes ≡ went → ComesToEnd options.reading.input options.reading.strict lines mid x'.takes
      pub behind : x.unknown ≡ 0 → 1 ≤ x'.unknown
          → Stands options.reading.input options.reading.strict lines mid x'.takes x'.behind
      pub clean : is_clean x'.sends.keeper → is_clean x.sends.keeper
      pub settled : goes ≡ went → IsKeptOf x.sends → is_clean x'.sends.keeper → IsKeptOf x'.sends
      pub counted : x'.sends.progress.taken ≡ x.sends.progress.taken + length (messages_in lines)
      pub joined : goes ≡ went → (by ≡ false → x.sends.progress.joined ≡ true) → x'.sends.progress.joined ≡ true
      pub idle : goes ≡ went → x'.sends.runs.held ≡ []
      pub outlives : IsKeptOf x.sends → is_clean x'.sends.keeper → (left : KeptServer) → leaves x'.sends.keeper left
          → (loan : ℕ) × (c : C) × LeftOf by (length (messages_in lines)) loan c x.sends left
      pub status : (stop : KeptStop) → went ≡ stopped stop → stop_status stop ≡ 3

    one_so : (by : Bool) (c c' : C) (x x' : LiveWas) (went : Went) → x.behind ≡ GoesOn
        → (runs : RunsOne opens closes remaining contents leaves is_clean saves fails options by c c' x x' went)
        → One by (of_one opens closes remaining contents leaves is_clean saves fails options by c c' x x' went runs) x
        x' went
    one_so by c c' x x' went on (loan, z, runs, finishes, is) =
        let r = ran opens closes remaining contents leaves is_clean saves fails options by _ z went on runs in
        subst (λ (y : LiveWas). One by (of_run opens closes remaining contents leaves is_clean saves fails options by _
        z went runs) x y went) (sym is) (record {
          lines = r.lines;
          mid = r.mid;
          takes = r.takes;
          give = r.give;
          passes = r.passes;
          pauses = r.pauses;
          done = r.done;
          behind = r.behind;
          clean = r.clean;
          settled = r.settled;
          counted = r.counted;
          joined = r.joined;
          idle = r.idle;
          outlives = λ settled clean left leaves_it. (loan, c, r.outlives settled clean left leaves_it);
          status = r.status;
        })

    -- one sender, where the end of the run was found before, so that there are no messages
    record Out (by : Bool) (messages : List (List ℕ)) (x x' : LiveWas) (end : Result (Unit {0}) RunFault) (went : Went)
        : Type 0 where
      pub takes : x'.takes ≡ x.takes
      pub give : [] ≡ messages
      pub none : x'.unknown ≡ x.unknown
      pub done : goes ≡ went → goes ≡ ended_as end
      pub clean : is_clean x'.sends.keeper → is_clean x.sends.keeper
      pub settled : goes ≡ went → IsKeptOf x.sends → is_clean x'.sends.keeper → IsKeptOf x'.sends
      pub counted : x'.sends.progress.taken ≡ x.sends.progress.taken
      pub joined : goes ≡ went → (by ≡ false → x.sends.progress.joined ≡ true) → x'.sends.progress.joined ≡ true
      pub idle : goes ≡ went → x.sends.runs.held ≡ [] → x'.sends.runs.held ≡ []
      pub outlives : IsKeptOf x.sends → is_clean x'.sends.keeper → (left : KeptServer) → leaves x'.sends.keeper left
          → (loan : ℕ) × (c : C) × LeftOf by 0 loan c x.sends left
      pub status : ((stop : KeptStop) → ended_as end ≡ stopped stop → stop_status stop ≡ 3) → (stop : KeptStop)
          → went ≡ stopped stop → stop_status stop ≡ 3

    out_so : (by : Bool) (c c' : C) (x x' : LiveWas) (end : Result (Unit {0}) RunFault) (went : Went)
        → x.behind ≡ Ends end
        → (runs : RunsOne opens closes remaining contents leaves is_clean saves fails options by c c' x x' went)
        → Out by (of_one opens closes remaining contents leaves is_clean saves fails options by c c' x x' went runs) x
        x' end went
    out_so by c c' x x' end went is_end (loan, z, runs, finishes, is) =
        let r = ran_out opens closes remaining contents leaves is_clean saves fails options by _ z end went is_end runs
        in
        subst (λ (y : LiveWas). Out by (of_run opens closes remaining contents leaves is_clean saves fails options by _
        z went runs) x y end went) (sym is) (record {
          takes = r.takes;
          give = r.give;
          none = r.none;
          done = r.done;
          clean = r.clean;
          settled = r.settled;
          counted = r.counted;
          joined = r.joined;
          idle = r.idle;
          outlives = λ settled clean left leaves_it. (loan, c, r.outlives settled clean left leaves_it);
          status = r.status;
        })

    -- so many senders more, whose lines gave these messages
    pub record Senders (again : ℕ) (messages : List (List ℕ)) (x x' : LiveWas) (went : Went) : Type 0 where
      pub lines : List (List ℕ × Given)
      pub mid : Intake
      pub takes : TakesLines options.reading.input lines x.takes mid
      pub give : messages_in lines ≡ messages
      pub once : options.rejoin ≡ false → again ≡ 0
      pub passes : Passes options.reading.strict lines
      pub pauses : Pauses options.reading.input mid x'.takes
      pub done : goes ≡ went → ComesToEnd options.reading.input options.reading.strict lines mid x'.takes
      pub behind : 1 ≤ x'.unknown
          → Stands options.reading.input options.reading.strict lines mid x'.takes x'.behind
      pub clean : is_clean x'.sends.keeper → is_clean x.sends.keeper
      pub settled : goes ≡ went → IsKeptOf x.sends → is_clean x'.sends.keeper → IsKeptOf x'.sends
      pub counted : x'.sends.progress.taken ≡ x0.progress.taken + length (messages_in lines)
      pub joined : goes ≡ went → x'.sends.progress.joined ≡ true
      pub idle : goes ≡ went → x'.sends.runs.held ≡ []
      pub outlives : IsKeptOf x.sends → is_clean x'.sends.keeper → (left : KeptServer) → leaves x'.sends.keeper left
          → OutlivesRun (length (messages_in lines)) left
      pub status : (stop : KeptStop) → went ≡ stopped stop → stop_status stop ≡ 3

    still_taken : (by : Bool) (x : Was) → HasBegun leaves is_clean saves fails by x0 x
        → x.progress.taken ≡ x0.progress.taken
    still_taken false x (runs, progress) = ap (λ p. p.taken) progress
    still_taken true x (runs, progress) = ap (λ p. p.taken) progress

    still_joined : (by : Bool) (x : Was) → is_due options.join x0.progress ≡ by
        → HasBegun leaves is_clean saves fails by x0 x → by ≡ false → x.progress.joined ≡ true
    still_joined false x is_so (runs, progress) is =
        ap (λ p. p.joined) progress ∙ was_joined options.join x0.progress.joined is_so
    still_joined true x is_so begun is = absurd (let no : true ≡ false = is in cc)

    same_address : (by : Bool) (x : Was) → HasBegun leaves is_clean saves fails by x0 x
        → x.runs.address ≡ x0.runs.address
    same_address false x (runs, progress) = ap (λ (s : ServerState). s.address) runs
    same_address true x (runs, progress) = ap (λ (s : ServerState). s.address) runs

    first_sender : (c c' : C) (x x' : LiveWas) (went : Went) → HasBegun leaves is_clean saves fails due x0 x.sends
        → x.unknown ≡ 0 → x.behind ≡ GoesOn
        → (runs : RunsOne opens closes remaining contents leaves is_clean saves fails options due c c' x x' went)
        → Senders 0
        (of_one opens closes remaining contents leaves is_clean saves fails options due c c' x x' went runs) x x' went
    first_sender c c' x x' went has none on runs =
        let r = one_so due c c' x x' went on runs in record {
          lines = r.lines;
          mid = r.mid;
          takes = r.takes;
          give = r.give;
          once = λ never. refl;
          passes = r.passes;
          pauses = r.pauses;
          done = r.done;
          behind = λ some. r.behind none some;
          clean = r.clean;
          settled = r.settled;
          counted = (let a = r.counted in let b = still_taken due x.sends has in omega (arith, a, b));
          joined = λ on. r.joined on (still_joined due x.sends due_is has);
          idle = r.idle;
          outlives = λ settled clean left leaves_it.
              (let (loan, d, out) = r.outlives settled clean left leaves_it in
              left_at_first due due_is x.sends has (length (messages_in r.lines)) loan d left out);
          status = r.status;
        }

    renew_status : (unknown : ℕ) (x y : Was) (stop : KeptStop)
        → Renews leaves is_clean saves fails options.form unknown x y (stopped stop) → stop_status stop ≡ 3
    renew_status unknown x y stop renews = by renews.saved
      where
        by : (saves x.keeper (kept_of y.progress y.runs) y.keeper
            × TellsKept (unknown_in options.form (x.progress.taken + 1 - unknown) unknown) (Ok tt) x.held y.held
            (stopped stop))
            ⊎ (fails x.keeper (kept_of y.progress y.runs) y.keeper × (y.held ≡ x.held)
            × (stopped stop ≡ stopped StateFailed)) → stop_status stop ≡ 3
        by (inl (saved, tells)) = telling_status _ x.held y.held stop tells
        by (inr (failed, same, is)) = same_status stop StateFailed refl is

    renewed : (unknown : ℕ) (x y : Was) → Renews leaves is_clean saves fails options.form unknown x y goes → is_clean
        y.keeper
        → IsKeptOf y
    renewed unknown x y renews clean = by (renews.settled clean)
      where
        by : IsKeptOf y ⊎ (goes ≡ stopped StateFailed) → IsKeptOf y
        by (inl kept) = kept
        by (inr failed) = absurd (goes_not_stopped StateFailed failed)

    not_once : (n : ℕ) → options.rejoin ≡ true → options.rejoin ≡ false → suc n ≡ 0
    not_once n rejoin never = absurd (let no : true ≡ false = sym rejoin ∙ never in cc)

    -- where the end was found behind what is outstanding, it is an end
    end_is : (lines : List (List ℕ × Given)) (mid end : Intake) (ends : Result (Unit {0}) RunFault)
        → Stands options.reading.input options.reading.strict lines mid end (Ends ends) → goes ≡ ended_as ends
        → ComesToEnd options.reading.input options.reading.strict lines mid end
    end_is lines mid end (Ok done) stands on = stands
    end_is lines mid end (Err fault) stands on = absurd (goes_not_stopped (Run fault) on)

    end_status : (lines : List (List ℕ × Given)) (mid end : Intake) (ends : Result (Unit {0}) RunFault)
        → Stands options.reading.input options.reading.strict lines mid end (Ends ends) → (stop : KeptStop)
        → ended_as ends ≡ stopped stop → stop_status stop ≡ 3
    end_status lines mid end (Ok done) stands stop is = not_so stop (sym is)
    end_status lines mid end (Err fault) stands stop is =
        same_status stop (Run fault) (taking_status options.reading.input mid end fault stands) (sym is)

    next_by : (n : ℕ) (messages : List (List ℕ)) (address : ℕ) (d c' : C) (x y x' : LiveWas) (w : Was)
        (stopped_so went : Went)
        → address ≡ x0.runs.address → options.rejoin ≡ true → 1 ≤ y.unknown → Senders n messages x y stopped_so
        → w.runs ≡ idle_at address
        → Renews leaves is_clean saves fails options.form y.unknown y.sends w goes
        → (runs : RunsOne opens closes remaining contents leaves is_clean saves fails options true d c' (anew_at y w) x'
        went)
        → (behind : After) → y.behind ≡ behind
        → Senders (suc n)
        (messages ++ of_one opens closes remaining contents leaves is_clean saves fails options true d c' (anew_at y w)
        x' went runs) x x' went
    next_by n messages address d c' x y x' w stopped_so went at rejoin some before new renews runs GoesOn is_on =
        let r = one_so true d c' (anew_at y w) x' went is_on runs in
        let earlier = length (messages_in before.lines) in
        let most = length (messages_in r.lines) in
        let all : length (messages_in (before.lines ++ r.lines)) ≡ earlier + most =
        messages_count before.lines r.lines in
        let now : w.progress.taken ≡ x0.progress.taken + earlier =
        ap (λ (p : Progress). p.taken) renews.progress ∙ before.counted in
        let (there, none) =
        subst (λ b. Stands options.reading.input options.reading.strict before.lines before.mid y.takes b) is_on
        (before.behind some) in
        record {
          lines = before.lines ++ r.lines;
          mid = r.mid;
          takes = lines_on options.reading.input before.lines r.lines x.takes before.mid r.mid before.takes
              (subst (λ i. TakesLines options.reading.input r.lines i r.mid) there r.takes);
          give = messages_append before.lines r.lines ∙ ap (λ l. l ++ messages_in r.lines) before.give
              ∙ ap (λ l. messages ++ l) r.give;
          once = not_once n rejoin;
          passes = passes_on options.reading.strict before.lines r.lines none r.passes;
          pauses = r.pauses;
          done = λ on. ends_on options.reading.input options.reading.strict before.lines r.lines r.mid x'.takes
              none (r.done on);
          behind = λ more. stands_on options.reading.input options.reading.strict before.lines r.lines r.mid x'.takes
              x'.behind none (r.behind refl more);
          clean = λ clean. before.clean (renews.clean (r.clean clean));
          settled = λ on settled clean. r.settled on (renewed y.unknown y.sends w renews (r.clean clean)) clean;
          counted = (let a = r.counted in omega (arith, a, now, all));
          joined = λ on. r.joined on (λ never. absurd (let no : true ≡ false = never in cc));
          idle = r.idle;
          outlives = λ settled clean left leaves_it.
              (let (loan, c, out) = r.outlives (renewed y.unknown y.sends w renews (r.clean clean)) clean left leaves_it
              in
              subst (λ m. OutlivesRun m left) (sym all)
              (left_again w earlier rejoin (new ∙ ap (λ a. idle_at a) at) now
              (ap (λ (p : Progress). p.joined) renews.progress) most loan c left out));
          status = r.status;
        }
    next_by n messages address d c' x y x' w stopped_so went at rejoin some before new renews runs (Ends end) is_end =
        let r = out_so true d c' (anew_at y w) x' end went is_end runs in
        let earlier = length (messages_in before.lines) in
        let now : w.progress.taken ≡ x0.progress.taken + earlier =
        ap (λ (p : Progress). p.taken) renews.progress ∙ before.counted in
        let stands : Stands options.reading.input options.reading.strict before.lines before.mid x'.takes (Ends end) =
        subst (λ i. Stands options.reading.input options.reading.strict before.lines before.mid i (Ends end))
        (sym r.takes)
        (subst (λ b. Stands options.reading.input options.reading.strict before.lines before.mid y.takes b) is_end
        (before.behind some)) in
        let none_more_is : earlier + 0 ≡ earlier = sym (none_more earlier) in
        record {
          lines = before.lines;
          mid = before.mid;
          takes = before.takes;
          give = before.give ∙ sym (append-nil messages) ∙ ap (λ l. messages ++ l) r.give;
          once = not_once n rejoin;
          passes = before.passes;
          pauses = stands_pausing options.reading.input options.reading.strict before.lines before.mid x'.takes
              (Ends end) stands;
          done = λ on. end_is before.lines before.mid x'.takes end stands (r.done on);
          behind = λ more. absurd (let zero_is : x'.unknown ≡ 0 = r.none in omega (arith, zero_is, more));
          clean = λ clean. before.clean (renews.clean (r.clean clean));
          settled = λ on settled clean. r.settled on (renewed y.unknown y.sends w renews (r.clean clean)) clean;
          counted = r.counted ∙ now;
          joined = λ on. r.joined on (λ never. absurd (let no : true ≡ false = never in cc));
          idle = λ on. r.idle on (ap (λ (s : ServerState). s.held) new);
          outlives = λ settled clean left leaves_it.
              (let (loan, c, out) = r.outlives (renewed y.unknown y.sends w renews (r.clean clean)) clean left leaves_it
              in
              subst (λ m. OutlivesRun m left) none_more_is
              (left_again w earlier rejoin (new ∙ ap (λ a. idle_at a) at) now
              (ap (λ (p : Progress). p.joined) renews.progress) 0 loan c left out));
          status = r.status (end_status before.lines before.mid x'.takes end stands);
        }

    next_sender : (n : ℕ) (messages : List (List ℕ)) (address : ℕ) (d c' : C) (x y x' : LiveWas)
        (stopped_so went : Went)
        → address ≡ x0.runs.address → options.rejoin ≡ true → 1 ≤ y.unknown → Senders n messages x y stopped_so
        → (runs : RunsAgain opens closes remaining contents leaves is_clean saves fails options address d c' y x' went)
        → Senders (suc n)
        (messages ++ of_again opens closes remaining contents leaves is_clean saves fails options address d c' y x' went
        runs) x x' went
    next_sender n messages address d c' x y x' stopped_so went at rejoin some before (w, new, inl (renews, runs)) =
        next_by n messages address d c' x y x' w stopped_so went at rejoin some before new renews runs y.behind refl
    next_sender n messages address d c' x y x' stopped_so went at rejoin some before
        (w, new, inr (stop, renews, is, connect, same)) =
        let earlier = length (messages_in before.lines) in
        let now : w.progress.taken ≡ x0.progress.taken + earlier =
        ap (λ (p : Progress). p.taken) renews.progress ∙ before.counted in
        subst (λ (v : LiveWas). Senders (suc n) (messages ++ []) x v went) (sym same) (record {
          lines = before.lines;
          mid = before.mid;
          takes = before.takes;
          give = before.give ∙ sym (append-nil messages);
          once = not_once n rejoin;
          passes = before.passes;
          pauses = before.pauses;
          done = λ on. absurd (goes_not_stopped stop (on ∙ is));
          behind = λ more. absurd (omega (arith, more));
          clean = λ clean. before.clean (renews.clean clean);
          settled = λ on. absurd (goes_not_stopped stop (on ∙ is));
          counted = now;
          joined = λ on. absurd (goes_not_stopped stop (on ∙ is));
          idle = λ on. absurd (goes_not_stopped stop (on ∙ is));
          outlives = λ settled clean left leaves_it.
              by now left settled (renews.clean clean) (renews.outlives clean left leaves_it);
          status = λ other stops. renew_status y.unknown y.sends w other
              (subst (λ v. Renews leaves is_clean saves fails options.form y.unknown y.sends w v) (sym is ∙ stops)
              renews);
        })
      where
        by : w.progress.taken ≡ x0.progress.taken + length (messages_in before.lines) → (left : KeptServer)
            → IsKeptOf x.sends → is_clean y.sends.keeper
            → leaves y.sends.keeper left ⊎ (left ≡ kept_of w.progress w.runs)
            → OutlivesRun (length (messages_in before.lines)) left
        by now left settled clean (inl was) = before.outlives settled clean left was
        by now left settled clean (inr is_new) =
            inr (inl (
              length (messages_in before.lines),
              inr rejoin,
              (let few : length (messages_in before.lines) ≤ length (messages_in before.lines) = omega arith in few),
              is_new ∙ new_is w.progress w.runs x0.runs.address
                  (x0.progress.taken + length (messages_in before.lines)) (new ∙ ap (λ a. idle_at a) at) now
                  (ap (λ (p : Progress). p.joined) renews.progress),
            ))

    pub senders : (n : ℕ) (c c' : C) (x x' : LiveWas) (went : Went)
        → HasBegun leaves is_clean saves fails due x0 x.sends → x.unknown ≡ 0 → x.behind ≡ GoesOn
        → (runs : RunsFor opens closes remaining contents leaves is_clean saves fails options due n c c' x x' went)
        → Senders n
        (of_senders opens closes remaining contents leaves is_clean saves fails options due n c c' x x' went runs) x x'
        went
    senders zero c c' x x' went has none on runs = first_sender c c' x x' went has none on runs
    senders (suc n) c c' x x' went has none on (d, y, stopped_so, before, rejoin, some, next) =
        next_sender n _ x.sends.runs.address d c' x y x' stopped_so went (same_address due x.sends has) rejoin some
        (senders n c d x y stopped_so has none on before) next

  -- ---- A whole run.

  -- what a run took, and what a crash leaves of it
  pub record Whole (options : LiveOptions) (x : LiveWas) (k' : K) (end : Intake) (went : Went) : Type 0 where
    pub lines : List (List ℕ × Given)
    pub mid : Intake
    pub takes : TakesLines options.reading.input lines x.takes mid
    pub passes : Passes options.reading.strict lines
    pub pauses : Pauses options.reading.input mid end
    pub done : goes ≡ went → ComesToEnd options.reading.input options.reading.strict lines mid end
    pub clean : is_clean k' → is_clean x.sends.keeper
    pub has_taken : goes ≡ went → IsKeptOf x.sends → is_clean k' → (left : KeptServer) → leaves k' left
        → HasTaken x.sends.progress (length (messages_in lines)) left
    pub outlives : IsKeptOf x.sends → is_clean k' → (left : KeptServer) → leaves k' left
        → OutlivesLive opens closes remaining contents saves fails options x.sends.progress x.sends.runs
        (length (messages_in lines)) left
    pub status : (stop : KeptStop) → went ≡ stopped stop → stop_status stop ≡ 3

  pub whole : (options : LiveOptions) (c c' : C) (x : LiveWas) (k' : K) (held' : Option (List ℕ)) (end : Intake)
      (applied : Bool) (went : Went)
      → LivesFrom opens closes remaining contents leaves is_clean saves fails options c c' x k' held' end applied went
      → Whole options x k' end went
  whole options c c' x k' held' end applied went
      (inl (y, again, z, begins, runs, last, keeper, held, takes, apply)) =
      let due = is_due options.join x.sends.progress in
      let begun = begun_so leaves is_clean saves fails options.form due x.sends y goes begins in
      let has = has_begun leaves is_clean saves fails options.form due x.sends y begins in
      let r = senders options x.sends due refl again c c' _ z went has refl refl runs in
      subst (λ i. Whole options x k' i went) (sym takes)
      (subst (λ k. Whole options x k z.takes went) (sym keeper) (record {
        lines = r.lines;
        mid = r.mid;
        takes = r.takes;
        passes = r.passes;
        pauses = r.pauses;
        done = r.done;
        clean = λ clean. begun.clean (r.clean clean);
        has_taken = λ on settled clean left leaves_it.
            (let is : left ≡ kept_of z.sends.progress z.sends.runs =
            r.settled on (begun.settled refl settled (r.clean clean)) clean left leaves_it in
            record {
              taken = ap (λ (k : KeptServer). k.taken) is ∙ r.counted;
              none_waits = ap (λ (k : KeptServer). k.held) is ∙ r.idle on;
              joined = ap (λ (k : KeptServer). k.joined) is ∙ r.joined on;
            });
        outlives = λ settled clean left leaves_it.
            r.outlives (begun.settled refl settled (r.clean clean)) clean left leaves_it;
        status = r.status;
      }))
  whole options c c' x k' held' end applied went (inr (y, stop, begins, is, connect, keeper, held, takes, apply)) =
      let due = is_due options.join x.sends.progress in
      let begun = begun_so leaves is_clean saves fails options.form due x.sends y (stopped stop) begins in
      subst (λ k. Whole options x k end went) (sym keeper) (record {
        lines = [];
        mid = x.takes;
        takes = refl;
        passes = inl (λ is_strict. refl);
        pauses = inl takes;
        done = λ on. absurd (goes_not_stopped stop (on ∙ is));
        clean = begun.clean;
        has_taken = λ on. absurd (goes_not_stopped stop (on ∙ is));
        outlives = λ settled clean left leaves_it. by left (begun.outlives settled clean left leaves_it);
        status = λ other stops. begin_status options.form due x.sends y other
            (subst (λ v. Then (TellsTaken options.form) (BeginsAnewIf leaves is_clean saves fails options.form due)
            x.sends y v) (sym is ∙ stops)
            begins);
      })
    where
      by : (left : KeptServer)
          → LeftBegun leaves is_clean saves fails (is_due options.join x.sends.progress) x.sends left
          → OutlivesLive opens closes remaining contents saves fails options x.sends.progress x.sends.runs 0 left
      by left (inl was) = inl was
      by left (inr (is_so, new)) =
          inr (inl (
            0,
            inl (is_so, refl),
            (let few : 0 ≤ 0 = omega arith in few),
            new ∙ ap (λ n. new_kept n) (none_more x.sends.progress.taken),
          ))
