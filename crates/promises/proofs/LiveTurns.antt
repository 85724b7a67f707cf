-- What a crash leaves of turns, and which lines they take.
use Rattle.std.proofs.Common.{arith, ◌≤◌, ◌≡◌, ◌⊎◌, ℕ, zero, suc, Bool, List, [], ◌++◌, length, Option, Ok, Err, refl}
use Rattle.std.proofs.Common.{sym, ap, subst, ◌∙◌, inl, inr}
use Rattle.std.specs.Prelude.{Result}
use Rattle.line_batches.specs.declared.intake.Input.{Input}
use Rattle.uecp_text.specs.declared.run_fault.RunFault.{RunFault}
use Rattle.uecp_text.specs.declared.run_fault.RunFault.TheVariants as run
use Rattle.uecp_net.specs.Sending.{SenderOver}
use Rattle.uecp_net.specs.Keeping.{KeptServer}
use Rattle.kept_jobs.specs.declared.stop.KeptStop.{KeptStop}
use Rattle.kept_jobs.specs.declared.stop.KeptStop.TheVariants.{Run}
use Rattle.kept_jobs.specs.Stops.{Went, stop_status}
use Rattle.kept_jobs.specs.ServerRun.{Standing}
use Rattle.kept_jobs.proofs.Public.{goes, stopped, goes_not_stopped}
use Rattle.line_batches.specs.declared.intake.Given.{Given}
use Rattle.line_batches.specs.declared.taking.After.{After}
use Rattle.line_batches.specs.declared.taking.After.TheVariants.{GoesOn, Ends}
use Rattle.line_batches.specs.Intake.{Intake, TakesLines, FailsToTake, messages_in}
use Rattle.line_batches.specs.Batches.{LeavesLine, NoneRefused}
use Rattle.line_batches.specs.Laws.{IsAfter}
use Rattle.output_forms.specs.declared.form.Form.{Form}
use Rattle.sending.specs.Run.{ended_as}
use Rattle.promises.proofs.OverLines.{Live, Turn, GoesOnFor, RunsTurns}
use Rattle.promises.specs.Taken.{Pauses, ComesToEnd, Passes}
use Rattle.promises.proofs.LiveLines.{same_fault, messages_append, messages_count, lines_on, pauses_after}
use Rattle.promises.proofs.LiveLines.{goes_on_after, ends_on}
use Rattle.promises.proofs.LiveLines.{comes_to_end, none_on, passes_on, passes_after, Stands, stands_after, stands_on}
use Rattle.promises.proofs.RunMessages.{of_going, of_turns}
use Rattle.promises.proofs.Unknown.{turn_unknown, going_unknown}
use Rattle.promises.proofs.Statuses.{taking_status}
use Rattle.promises.proofs.Calls.{Called, called_none, called_on, called_stops, sends_some}

module _ {C I O K : Type 0} (opens : C → Option (I × O) → C → Type 0) (closes : C → I → O → C → Type 0)
    (remaining : I → Option (List ℕ)) (contents : O → Option (List ℕ)) (leaves : K → KeptServer → Type 0)
    (is_clean : K → Type 0) (saves fails : K → KeptServer → K → Type 0) (form : Form) (input : Input) (size : ℕ)
    (strict : Bool)
  where
    abbrev At : Type 0
    At = Standing (SenderOver C I O) K

    abbrev LiveAt : Type 0
    LiveAt = Live (SenderOver C I O) K

    abbrev IsCalled : (taken : ℕ) → (x x' : At) → Went → Type 0
    IsCalled = Called opens closes remaining contents leaves is_clean saves fails

    -- why a batch ended
    abbrev Next : List (List ℕ × Given) → (y z : Intake) → After → Type 0
    Next taken y z after =
        IsAfter input strict taken y z after
        ⊎ ((fault : RunFault) × (after ≡ Ends (Err fault)) × (FailsToTake y z fault ⊎ LeavesLine input y z fault)
        × NoneRefused strict taken)

    -- lines were taken up to there, which gave these messages, and these were sent
    pub record Part (lines : List (List ℕ × Given)) (messages : List (List ℕ)) (x : LiveAt) (mid : Intake) (x' : At)
        (went : Went) : Type 0 where
      pub takes : TakesLines input lines x.takes mid
      pub give : messages_in lines ≡ messages
      pub called : Called opens closes remaining contents leaves is_clean saves fails (length (messages_in lines))
          x.sends
          x' went

    part_none : (x : LiveAt) → Part [] [] x x.takes x.sends goes
    part_none x = record {
      takes = refl;
      give = refl;
      called = called_none opens closes remaining contents leaves is_clean saves fails x.sends goes refl;
    }

    part_on : (a b : List (List ℕ × Given)) (m n : List (List ℕ)) (x y : LiveAt) (mid : Intake) (x' : At) (went : Went)
        → Part a m x y.takes y.sends goes → Part b n y mid x' went → Part (a ++ b) (m ++ n) x mid x' went
    part_on a b m n x y mid x' went one rest = record {
      takes = lines_on input a b x.takes y.takes mid one.takes rest.takes;
      give = messages_append a b ∙ ap (λ l. l ++ messages_in b) one.give ∙ ap (λ l. m ++ l) rest.give;
      called = subst (λ n. IsCalled n x.sends x' went) (sym (messages_count a b))
          (called_on opens closes remaining contents leaves is_clean saves fails (length (messages_in a))
          (length (messages_in b)) x.sends y.sends x' went one.called rest.called);
    }

    part_stops : (a : List (List ℕ × Given)) (m : List (List ℕ)) (x : LiveAt) (mid : Intake) (x' : At) (stop : KeptStop)
        → stop_status stop ≡ 3 → Part a m x mid x' goes → Part a m x mid x' (stopped stop)
    part_stops a m x mid x' stop three one = record {
      takes = one.takes;
      give = one.give;
      called = called_stops opens closes remaining contents leaves is_clean saves fails (length (messages_in a)) x.sends
          x' stop three one.called;
    }

    pub turn_part : (x x' : LiveAt) (after : After) (went : Went)
        → (turn : Turn opens closes remaining contents leaves is_clean saves fails form input size strict x x' after
        went)
        → (lines : List (List ℕ × Given)) × (mid : Intake) × Part lines turn.messages x mid x'.sends went
        × Next lines mid x'.takes after
    turn_part x x' after went turn =
        let (taken, mid, takes, is, few, next) = turn.taken in (
          taken,
          mid,
          record {
            takes = takes;
            give = sym is;
            called = subst (λ ms. IsCalled (length ms) x.sends x'.sends went) is
                (sends_some opens closes remaining contents leaves is_clean saves fails form turn.messages x.sends
                x'.sends
                x.applied x'.applied x.unknown x'.unknown went turn.sends);
          },
          next,
        )

    -- the messages of so many turns
    abbrev gone : (n : ℕ) → (x y : LiveAt)
        → GoesOnFor opens closes remaining contents leaves is_clean saves fails form input size strict n x y
        → List (List ℕ)
    gone = of_going opens closes remaining contents leaves is_clean saves fails form input size strict

    goes_on_part : (n : ℕ) (x y : LiveAt)
        → (before : GoesOnFor opens closes remaining contents leaves is_clean saves fails form input size strict n x y)
        → (lines : List (List ℕ × Given)) × Part lines (gone n x y before) x y.takes y.sends goes
        × NoneRefused strict lines
    goes_on_part zero x y same =
        ([], subst (λ (z : LiveAt). Part [] [] x z.takes z.sends goes) (sym same) (part_none x), λ is_strict. refl)
    goes_on_part (suc n) x z (y, before, turn) =
        let (a, one, none) = goes_on_part n x y before in
        let (b, mid, part, next) = turn_part y z GoesOn goes turn in
        let (same, none_more) = goes_on_after input strict b mid z.takes next in (
          a ++ b,
          part_on a b (gone n x y before) turn.messages x y z.takes z.sends goes one
              (subst (λ k. Part b turn.messages y k z.sends goes) (sym same) part),
          none_on strict a b none none_more,
        )

    -- turns up to the last, which took these messages
    pub record Turned (messages : List (List ℕ)) (x x' : LiveAt) (went : Went) : Type 0 where
      pub lines : List (List ℕ × Given)
      pub mid : Intake
      pub part : Part lines messages x mid x'.sends went
      pub passes : Passes strict lines
      pub pauses : Pauses input mid x'.takes
      pub done : goes ≡ went → ComesToEnd input strict lines mid x'.takes
      pub behind : x.unknown ≡ 0 → 1 ≤ x'.unknown → Stands input strict lines mid x'.takes x'.behind

    turns_end : (a b : List (List ℕ × Given)) (m n : List (List ℕ)) (x y x' : LiveAt) (mid : Intake)
        (end : Result (Unit {0}) RunFault) (went : Went)
        → Part a m x y.takes y.sends goes → Part b n y mid x'.sends goes → Next b mid x'.takes (Ends end)
        → went ≡ ended_as end → NoneRefused strict a → (x.unknown ≡ 0 → x'.unknown ≡ 0) → Turned (m ++ n) x x' went
    turns_end a b m n x y x' mid (Ok done) went one part next is before unknown = record {
      lines = a ++ b;
      mid = mid;
      part = subst (λ w. Part (a ++ b) (m ++ n) x mid x'.sends w) (sym is)
          (part_on a b m n x y mid x'.sends goes one part);
      passes = passes_on strict a b before (passes_after input strict b mid x'.takes (Ends (Ok done)) next);
      pauses = pauses_after input strict b mid x'.takes (Ends (Ok done)) next;
      done = λ on. ends_on input strict a b mid x'.takes before (comes_to_end input strict b mid x'.takes done next);
      behind = λ zero_was some. absurd (let zero_is = unknown zero_was in omega (arith, zero_is, some));
    }
    turns_end a b m n x y x' mid (Err fault) went one part (inl never) is before unknown = absurd never
    turns_end a b m n x y x' mid (Err fault) went one part (inr (other, same, why, passed)) is before unknown =
        let fault_is : other ≡ fault = sym (same_fault fault other same) in
        let three : stop_status (Run fault) ≡ 3 = subst (λ f. stop_status (Run f) ≡ 3) fault_is
        (taking_status input mid x'.takes other why) in
        record {
          lines = a ++ b;
          mid = mid;
          part = subst (λ w. Part (a ++ b) (m ++ n) x mid x'.sends w) (sym is)
              (part_stops (a ++ b) (m ++ n) x mid x'.sends (Run fault) three
              (part_on a b m n x y mid x'.sends goes one part));
          passes = passes_on strict a b before (inl passed);
          pauses = inr (inr (other, why));
          done = λ on. absurd (goes_not_stopped (Run fault) (on ∙ is));
          behind = λ zero_was some. absurd (let zero_is = unknown zero_was in omega (arith, zero_is, some));
        }

    pub turned : (x x' : LiveAt) (went : Went)
        → (turns : RunsTurns opens closes remaining contents leaves is_clean saves fails form input size strict x x'
        went)
        → Turned (of_turns opens closes remaining contents leaves is_clean saves fails form input size strict x x' went
        turns) x x' went
    turned x x' went (n, y, before, inl (inl (end, turn, is))) =
        let (a, one, none) = goes_on_part n x y before in
        let (b, mid, part, next) = turn_part y x' (Ends end) goes turn in
        turns_end a b (gone n x y before) turn.messages x y x' mid end went one part next is none
        (λ zero_was. turn_unknown opens closes remaining contents leaves is_clean saves fails form input size strict y
        x'
        (Ends end) (going_unknown opens closes remaining contents leaves is_clean saves fails form input size strict n
        x
        y zero_was before) turn)
    turned x x' went (n, y, before, inl (inr (after, stop, turn, is))) =
        let (a, one, none) = goes_on_part n x y before in
        let (b, mid, part, next) = turn_part y x' after (stopped stop) turn in
        record {
          lines = a ++ b;
          mid = mid;
          part = subst (λ w. Part (a ++ b) (gone n x y before ++ turn.messages) x mid x'.sends w) (sym is)
              (part_on a b (gone n x y before) turn.messages x y mid x'.sends (stopped stop) one part);
          passes = passes_on strict a b none (passes_after input strict b mid x'.takes after next);
          pauses = pauses_after input strict b mid x'.takes after next;
          done = λ on. absurd (goes_not_stopped stop (on ∙ is));
          behind = λ zero_was some. subst (λ d. Stands input strict (a ++ b) mid x'.takes d) (sym turn.behind)
              (stands_on input strict a b mid x'.takes after none (stands_after input strict b mid x'.takes after
              next));
        }
    turned x x' went (n, y, before, inr (all, same, is)) =
        let (a, one, none) = goes_on_part n x y before in
        record {
          lines = a;
          mid = y.takes;
          part = subst (λ w. Part a (gone n x y before) x y.takes x'.sends w) (sym is)
              (subst (λ (z : LiveAt). Part a (gone n x y before) x y.takes z.sends (stopped (Run run.Reading)))
              (sym same) (part_stops a (gone n x y before) x y.takes y.sends (Run run.Reading) refl one));
          passes = inl none;
          pauses = inl (ap (λ (z : LiveAt). z.takes) same);
          done = λ on. absurd (goes_not_stopped (Run run.Reading) (on ∙ is));
          behind = λ zero_was some.
              absurd (let zero_is : x'.unknown ≡ 0 = ap (λ (z : LiveAt). z.unknown) same
              ∙ going_unknown opens closes remaining contents leaves is_clean saves fails form input size strict n x y
              zero_was before in omega (arith, zero_is, some));
        }
