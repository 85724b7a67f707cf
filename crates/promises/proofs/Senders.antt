-- What a crash leaves of one sender, and which lines it takes.
use Rattle.std.proofs.Common.{arith, ◌≡◌, ◌⊎◌, ℕ, ◌+◌, ◌≤◌, Bool, true, false, List, [], length, Option, refl, sym}
use Rattle.std.proofs.Common.{ap, subst, ◌∙◌, inl, inr}
use Rattle.std.specs.Prelude.{Result}
use Rattle.uecp_text.specs.declared.run_fault.RunFault.{RunFault}
use Rattle.uecp_net.specs.Sending.{SenderOver}
use Rattle.uecp_net.specs.Keeping.{KeptServer, kept_of, IsKept}
use Rattle.kept_jobs.specs.declared.stop.KeptStop.{KeptStop}
use Rattle.kept_jobs.specs.Stops.{Went, stop_status}
use Rattle.kept_jobs.specs.ServerRun.{Standing}
use Rattle.kept_jobs.proofs.Public.{goes, stopped, goes_not_stopped, Chain, chain_none}
use Rattle.line_batches.specs.declared.intake.Given.{Given}
use Rattle.line_batches.specs.declared.taking.After.{After}
use Rattle.line_batches.specs.declared.taking.After.TheVariants.{GoesOn, Ends}
use Rattle.line_batches.specs.Intake.{Intake, TakesLines, messages_in}
use Rattle.sending.specs.declared.options.LiveOptions.{LiveOptions}
use Rattle.sending.specs.Run.{MakesOnce, ended_as, run_of}
use Rattle.promises.proofs.OverLines.{Live, RunsOn, RunsLive}
use Rattle.promises.specs.Taken.{Pauses, ComesToEnd, Passes}
use Rattle.promises.proofs.LiveLines.{Stands}
use Rattle.promises.proofs.RunMessages.{of_run_on, of_run}
use Rattle.promises.proofs.Unknown.{none_unsettled}
use Rattle.promises.proofs.LiveMaking.{makes_idle}
use Rattle.promises.proofs.Calls.{Called, called_on, settles_call, settles_idle}
use Rattle.promises.proofs.LiveTurns.{turned}
use Rattle.promises.proofs.LiveMaking.{First, Making, making_if}

none_before : (n : ℕ) → 0 + n ≡ n
none_before n = omega arith

module _ {C I O K : Type 0} (opens : C → Option (I × O) → C → Type 0) (closes : C → I → O → C → Type 0)
    (remaining : I → Option (List ℕ)) (contents : O → Option (List ℕ)) (leaves : K → KeptServer → Type 0)
    (is_clean : K → Type 0) (saves fails : K → KeptServer → K → Type 0) (options : LiveOptions) where
  abbrev At : Type 0
  At = Standing (SenderOver C I O) K

  abbrev LiveAt : Type 0
  LiveAt = Live (SenderOver C I O) K

  abbrev IsKeptAt : At → Type 0
  IsKeptAt x = IsKept (leaves x.keeper) x.progress x.runs.sender.server

  abbrev kept_at : At → KeptServer
  kept_at x = kept_of x.progress x.runs.sender.server

  abbrev FirstOf : (due : Bool) → At → KeptServer → Type 0
  FirstOf = First opens closes remaining contents leaves is_clean saves fails options.form options.reading.size
      options.station.now

  abbrev IsMaking : (due : Bool) → (x x' : At) → Went → Type 0
  IsMaking = Making opens closes remaining contents leaves is_clean saves fails options.form options.reading.size
      options.station.now

  abbrev IsCalled : (taken : ℕ) → (x x' : At) → Went → Type 0
  IsCalled = Called opens closes remaining contents leaves is_clean saves fails

  -- what a crash leaves of a sender that takes so many messages
  abbrev pub Left : (due : Bool) → (most : ℕ) → At → KeptServer → Type 0
  Left due most x left =
      (left ≡ kept_at x) ⊎ ((first : KeptServer) × FirstOf due x first
      × Chain opens closes remaining contents leaves is_clean saves fails most first left)

  -- what it took, which gave these messages, and what a crash leaves of it
  pub record Ran (due : Bool) (messages : List (List ℕ)) (x x' : LiveAt) (went : Went) : Type 0 where
    pub lines : List (List ℕ × Given)
    pub mid : Intake
    pub takes : TakesLines options.reading.input lines x.takes mid
    pub give : messages_in lines ≡ messages
    pub passes : Passes options.reading.strict lines
    pub pauses : Pauses options.reading.input mid x'.takes
    pub done : goes ≡ went → ComesToEnd options.reading.input options.reading.strict lines mid x'.takes
    pub behind : x.unknown ≡ 0 → 1 ≤ x'.unknown
        → Stands options.reading.input options.reading.strict lines mid x'.takes x'.behind
    pub clean : is_clean x'.sends.keeper → is_clean x.sends.keeper
    pub settled : goes ≡ went → IsKeptAt x.sends → is_clean x'.sends.keeper → IsKeptAt x'.sends
    pub counted : x'.sends.progress.taken ≡ x.sends.progress.taken + length (messages_in lines)
    pub joined : goes ≡ went → (due ≡ false → x.sends.progress.joined ≡ true) → x'.sends.progress.joined ≡ true
    pub idle : goes ≡ went → x'.sends.runs.sender.server.held ≡ []
    pub outlives : IsKeptAt x.sends → is_clean x'.sends.keeper → (left : KeptServer) → leaves x'.sends.keeper left
        → Left due (length (messages_in lines)) x.sends left
    pub status : (stop : KeptStop) → went ≡ stopped stop → stop_status stop ≡ 3

  -- it could send, and then these calls were made
  ran_so : (due : Bool) (x : LiveAt) (y : At) (x' : LiveAt) (went : Went) (lines : List (List ℕ × Given))
      (messages : List (List ℕ)) (mid : Intake) → messages_in lines ≡ messages
      → IsMaking due x.sends y goes → IsCalled (length (messages_in lines)) y x'.sends went
      → TakesLines options.reading.input lines x.takes mid → Passes options.reading.strict lines
      → Pauses options.reading.input mid x'.takes
      → (goes ≡ went → ComesToEnd options.reading.input options.reading.strict lines mid x'.takes)
      → (x.unknown ≡ 0 → 1 ≤ x'.unknown
      → Stands options.reading.input options.reading.strict lines mid x'.takes x'.behind)
      → (goes ≡ went → x'.sends.runs.sender.server.held ≡ []) → Ran due messages x x' went
  ran_so due x y x' went lines messages mid give made called takes passes pauses done behind idle = record {
    lines = lines;
    mid = mid;
    takes = takes;
    give = give;
    passes = passes;
    pauses = pauses;
    done = done;
    behind = behind;
    clean = λ clean. made.clean (called.after.clean clean);
    settled = λ on settled clean.
        called.after.settled on (made.settled refl settled (called.after.clean clean)) clean;
    counted = (let a = made.counted in let b = called.counted in omega (arith, a, b));
    joined = λ on before. called.joined ∙ made.joined refl before;
    idle = idle;
    outlives = λ settled clean left leaves_it.
        inr (
          kept_at y,
          made.first refl,
          called.after.outlives (made.settled refl settled (called.after.clean clean)) clean left leaves_it,
        );
    status = called.status;
  }

  -- one that goes on once its encoder is joined
  ran_on : (due : Bool) (x y x' : LiveAt) (went : Went) → x.behind ≡ GoesOn
      → MakesOnce opens closes remaining contents leaves is_clean saves fails (run_of options) due x y goes
      → (runs : RunsOn opens closes remaining contents leaves is_clean saves fails options GoesOn y x' went)
      → Ran due (of_run_on opens closes remaining contents leaves is_clean saves fails options GoesOn y x' went runs)
      x x' went
  ran_on due x y x' went on (made, takes, unknown, keeps) (inl (z, (settles, takes_on, stays), turns)) =
      let t = turned opens closes remaining contents leaves is_clean saves fails options.form options.reading.input
      options.reading.size options.reading.strict z x' went turns in
      let call = settles_call opens closes remaining contents leaves is_clean saves fails options.form y.sends z.sends
      y.applied z.applied y.unknown z.unknown goes settles in
      let idle = settles_idle opens closes remaining contents leaves is_clean saves fails options.form y.sends z.sends
      y.applied z.applied y.unknown z.unknown goes settles refl in
      ran_so due x y.sends x' went t.lines _ t.mid t.part.give
      (making_if opens closes remaining contents leaves is_clean saves fails options.form options.reading.size
      options.station.now due x.sends y.sends x.applied y.applied goes made)
      (subst (λ n. IsCalled n y.sends x'.sends went) (none_before (length (messages_in t.lines)))
      (called_on opens closes remaining contents leaves is_clean saves fails 0 (length (messages_in t.lines)) y.sends
      z.sends x'.sends went call t.part.called))
      (subst (λ k. TakesLines options.reading.input t.lines k t.mid) (takes_on ∙ takes) t.part.takes) t.passes t.pauses
      t.done
      (λ none some. t.behind (none_unsettled opens closes remaining contents leaves is_clean saves fails options.form
      y.sends z.sends y.applied z.applied y.unknown z.unknown (unknown ∙ none) settles) some)
      (λ on. t.part.called.idle on idle)
  ran_on due x y x' went on (made, takes, unknown, keeps) (inr (stop, (settles, takes_on, stays), is)) =
      let call = settles_call opens closes remaining contents leaves is_clean saves fails options.form y.sends x'.sends
      y.applied x'.applied y.unknown x'.unknown (stopped stop) settles in
      ran_so due x y.sends x' went [] [] x.takes refl
      (making_if opens closes remaining contents leaves is_clean saves fails options.form options.reading.size
      options.station.now due x.sends y.sends x.applied y.applied goes made)
      (subst (λ w. IsCalled 0 y.sends x'.sends w) (sym is) call) refl (inl (λ is_strict. refl)) (inl (takes_on ∙ takes))
      (λ on. absurd (goes_not_stopped stop (on ∙ is)))
      (λ none some. subst
      (λ d. Stands options.reading.input options.reading.strict [] x.takes x'.takes d) (sym (stays ∙ keeps ∙ on))
      (takes_on ∙ takes, λ is_strict. refl)) (λ on. absurd (goes_not_stopped stop (on ∙ is)))

  left_making : (due : Bool) (x : At) (left : KeptServer) → (left ≡ kept_at x) ⊎ FirstOf due x left
      → Left due 0 x left
  left_making due x left (inl is) = inl is
  left_making due x left (inr first) =
      inr (left, first, chain_none opens closes remaining contents leaves is_clean saves fails left)

  -- so, by what comes behind what was outstanding
  ran_by : (due : Bool) (x y x' : LiveAt) (went : Went) → x.behind ≡ GoesOn
      → MakesOnce opens closes remaining contents leaves is_clean saves fails (run_of options) due x y goes
      → (behind : After) → behind ≡ GoesOn
      → (runs : RunsOn opens closes remaining contents leaves is_clean saves fails options behind y x' went)
      → Ran due (of_run_on opens closes remaining contents leaves is_clean saves fails options behind y x' went runs)
      x x' went
  ran_by due x y x' went on makes GoesOn is runs = ran_on due x y x' went on makes runs
  ran_by due x y x' went on makes (Ends end) is runs = absurd (let no : Ends end ≡ GoesOn = is in cc)

  pub ran : (due : Bool) (x x' : LiveAt) (went : Went) → x.behind ≡ GoesOn
      → (runs : RunsLive opens closes remaining contents leaves is_clean saves fails options due x x' went)
      → Ran due (of_run opens closes remaining contents leaves is_clean saves fails options due x x' went runs) x x'
      went
  ran due x x' went is_on (inl (y, (made, takes, unknown, keeps), on)) =
      ran_by due x y x' went is_on (made, takes, unknown, keeps) y.behind (keeps ∙ is_on) on
  ran due x x' went is_on (inr (stop, (made, takes, unknown, keeps), is)) =
      let m = making_if opens closes remaining contents leaves is_clean saves fails options.form options.reading.size
      options.station.now due x.sends x'.sends x.applied x'.applied (stopped stop) made in
      record {
        lines = [];
        mid = x.takes;
        takes = refl;
        give = refl;
        passes = inl (λ is_strict. refl);
        pauses = inl takes;
        done = λ on. absurd (goes_not_stopped stop (on ∙ is));
        behind = λ none some. absurd (omega (arith, unknown, none, some));
        clean = m.clean;
        settled = λ on. absurd (goes_not_stopped stop (on ∙ is));
        counted = (let a = m.counted in omega (arith, a));
        joined = λ on. absurd (goes_not_stopped stop (on ∙ is));
        idle = λ on. absurd (goes_not_stopped stop (on ∙ is));
        outlives = λ settled clean left leaves_it.
            left_making due x.sends left (m.outlives settled clean left leaves_it);
        status = λ other stops. m.status other (sym is ∙ stops);
      }

  -- What a crash leaves of a sender that takes no line, and so no message: the end of the run was found before.
  pub record RanOut (due : Bool) (messages : List (List ℕ)) (x x' : LiveAt) (end : Result (Unit {0}) RunFault)
      (went : Went) : Type 0 where
    pub takes : x'.takes ≡ x.takes
    pub give : [] ≡ messages
    pub none : x'.unknown ≡ x.unknown
    pub done : goes ≡ went → goes ≡ ended_as end
    pub clean : is_clean x'.sends.keeper → is_clean x.sends.keeper
    pub settled : goes ≡ went → IsKeptAt x.sends → is_clean x'.sends.keeper → IsKeptAt x'.sends
    pub counted : x'.sends.progress.taken ≡ x.sends.progress.taken
    pub joined : goes ≡ went → (due ≡ false → x.sends.progress.joined ≡ true) → x'.sends.progress.joined ≡ true
    pub idle : goes ≡ went → x.sends.runs.sender.server.held ≡ [] → x'.sends.runs.sender.server.held ≡ []
    pub outlives : IsKeptAt x.sends → is_clean x'.sends.keeper → (left : KeptServer) → leaves x'.sends.keeper left
        → Left due 0 x.sends left
    pub status : ((stop : KeptStop) → ended_as end ≡ stopped stop → stop_status stop ≡ 3) → (stop : KeptStop)
        → went ≡ stopped stop → stop_status stop ≡ 3

  ran_out_on : (due : Bool) (x y x' : LiveAt) (end : Result (Unit {0}) RunFault) (went : Went)
      → MakesOnce opens closes remaining contents leaves is_clean saves fails (run_of options) due x y goes
      → RunsOn opens closes remaining contents leaves is_clean saves fails options (Ends end) y x' went
      → RanOut due [] x x' end went
  ran_out_on due x y x' end went (made, takes, unknown, keeps) (same, is) =
      let m = making_if opens closes remaining contents leaves is_clean saves fails options.form options.reading.size
      options.station.now due x.sends y.sends x.applied y.applied goes made in
      let sends : x'.sends ≡ y.sends = ap (λ (v : LiveAt). v.sends) same in
      record {
        takes = ap (λ (v : LiveAt). v.takes) same ∙ takes;
        give = refl;
        none = ap (λ (v : LiveAt). v.unknown) same ∙ unknown;
        done = λ on. on ∙ is;
        clean = λ clean. m.clean (subst (λ (v : At). is_clean v.keeper) sends clean);
        settled = λ on settled clean. subst (λ (v : At). IsKeptAt v) (sym sends)
            (m.settled refl settled (subst (λ (v : At). is_clean v.keeper) sends clean));
        counted = ap (λ (v : At). v.progress.taken) sends ∙ m.counted;
        joined = λ on before. ap (λ (v : At). v.progress.joined) sends ∙ m.joined refl before;
        idle = λ on idle. ap (λ (v : At). v.runs.sender.server.held) sends
            ∙ makes_idle opens closes remaining contents leaves is_clean saves fails options.form options.reading.size
            options.station.now due x.sends y.sends x.applied y.applied made idle;
        outlives = λ settled clean left leaves_it. left_making due x.sends left
            (m.outlives settled (subst (λ (v : At). is_clean v.keeper) sends clean) left
            (subst (λ (v : At). leaves v.keeper left) sends leaves_it));
        status = λ ends stop stops. ends stop (sym is ∙ stops);
      }

  -- so, by what comes behind what was outstanding
  ran_out_by : (due : Bool) (x y x' : LiveAt) (end : Result (Unit {0}) RunFault) (went : Went)
      → MakesOnce opens closes remaining contents leaves is_clean saves fails (run_of options) due x y goes
      → (behind : After) → behind ≡ Ends end
      → (runs : RunsOn opens closes remaining contents leaves is_clean saves fails options behind y x' went)
      → RanOut due
      (of_run_on opens closes remaining contents leaves is_clean saves fails options behind y x' went runs) x x' end
      went
  ran_out_by due x y x' end went makes GoesOn is runs = absurd (let no : GoesOn ≡ Ends end = is in cc)
  ran_out_by due x y x' end went makes (Ends other) is runs =
      let same : other ≡ end = (let outer : Ends other ≡ Ends end = is in cc) in
      subst (λ e. RanOut due [] x x' e went) same (ran_out_on due x y x' other went makes runs)

  pub ran_out : (due : Bool) (x x' : LiveAt) (end : Result (Unit {0}) RunFault) (went : Went) → x.behind ≡ Ends end
      → (runs : RunsLive opens closes remaining contents leaves is_clean saves fails options due x x' went)
      → RanOut due (of_run opens closes remaining contents leaves is_clean saves fails options due x x' went runs) x x'
      end went
  ran_out due x x' end went is_end (inl (y, (made, takes, unknown, keeps), on)) =
      ran_out_by due x y x' end went (made, takes, unknown, keeps) y.behind (keeps ∙ is_end) on
  ran_out due x x' end went is_end (inr (stop, (made, takes, unknown, keeps), is)) =
      let m = making_if opens closes remaining contents leaves is_clean saves fails options.form options.reading.size
      options.station.now due x.sends x'.sends x.applied x'.applied (stopped stop) made in
      record {
        takes = takes;
        give = refl;
        none = unknown;
        done = λ on. absurd (goes_not_stopped stop (on ∙ is));
        clean = m.clean;
        settled = λ on. absurd (goes_not_stopped stop (on ∙ is));
        counted = m.counted;
        joined = λ on. absurd (goes_not_stopped stop (on ∙ is));
        idle = λ on. absurd (goes_not_stopped stop (on ∙ is));
        outlives = λ settled clean left leaves_it.
            left_making due x.sends left (m.outlives settled clean left leaves_it);
        status = λ ends other stops. m.status other (sym is ∙ stops);
      }
