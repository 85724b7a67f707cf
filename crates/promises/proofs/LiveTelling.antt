-- What turns and senders tell.
use Rattle.std.proofs.Common.{arith, ◌≡◌, ◌⊎◌, ℕ, zero, suc, ◌+◌, ◌-◌, ◌≤◌, Bool, true, false, ◌&&◌, List, [], ◌++◌}
use Rattle.std.proofs.Common.{length}
use Rattle.std.proofs.Common.{Option, Ok, Err, refl, sym, ap, subst, ◌∙◌, inl, inr, append_assoc, append-nil}
use Rattle.std.proofs.Common.{length-append}
use Rattle.std.specs.Io.KnownBytes.{Appends}
use Rattle.std.specs.List.{list_all}
use Rattle.std.proofs.lemmas.List.Folds.{list_all-append}
use Rattle.line_batches.specs.declared.intake.Input.{Input}
use Rattle.uecp_elements.specs.declared.code.Code.{Code}
use Rattle.uecp_text.specs.declared.run_fault.RunFault.TheVariants as run
use Rattle.uecp_text.proofs.Public.{appends_nothing, appends_then}
use Rattle.uecp_link.specs.Server.{waiting}
use Rattle.uecp_net.specs.declared.sender.Outstanding.TheVariants.{TriesSpent, ConnectionFailed}
use Rattle.uecp_net.specs.declared.sender.Settled.{Settled}
use Rattle.uecp_net.specs.Sending.{SenderOver, submitted_all}
use Rattle.uecp_jobs.proofs.Public.{all_wait}
use Rattle.uecp_net.specs.declared.saved.keep.Progress.{Progress}
use Rattle.uecp_net.specs.declared.saved.batch.KeptOutstanding.TheVariants as kept
use Rattle.uecp_net.specs.Keeping.{KeptServer}
use Rattle.uecp_net.specs.SavedSending.{Ended, SendsKept}
use Rattle.kept_jobs.specs.declared.stop.KeptStop.{KeptStop}
use Rattle.kept_jobs.specs.declared.stop.KeptStop.TheVariants.{Run, StateFailed}
use Rattle.kept_jobs.specs.Stops.{Went, TellsKept, stop_for}
use Rattle.kept_jobs.specs.ServerRun.{Standing, SendsOne}
use Rattle.kept_jobs.proofs.Public.{goes, stopped, goes_not_stopped}
use Rattle.line_batches.specs.declared.taking.After.{After}
use Rattle.line_batches.specs.declared.taking.After.TheVariants.{GoesOn, Ends}
use Rattle.output_forms.specs.declared.form.Form.{Form}
use Rattle.sending.specs.declared.account.Account.TheVariants.{Numbered}
use Rattle.sending.specs.Lines.{is_applied}
use Rattle.sending.specs.Run.{AnswersTold, RepliesOf, SendsSome, unknown_of, are_applied}
use Rattle.promises.proofs.OverLines.{Live, Turn, GoesOnFor, RunsTurns}
use Rattle.promises.specs.LiveTold.{AreAnswers}
use Rattle.promises.proofs.RunMessages.{of_going, of_turns}
use Rattle.promises.proofs.LiveAnswering.{replied, replied_count, replied_append, replies_told, answers_append}
use Rattle.promises.proofs.LiveAnswering.{none_lost, batch_waits}
use Rattle.promises.proofs.LiveTurns.{turn_part}
use Rattle.promises.proofs.Unknown.{turn_unknown}

-- the run goes on, or it stopped with messages outstanding and each try spent
abbrev pub Onward : Went → (unknown : ℕ) → Type 0
Onward went unknown = (goes ≡ went) ⊎ (1 ≤ unknown)

-- what is told of a run that goes on is told whole
pub told_all : (lines : List ℕ) (held held' : Option (List ℕ)) (went : Went) → TellsKept lines goes held held' went
    → goes ≡ went → Appends held held' lines
told_all lines held held' went (inl (appends, is)) on = appends
told_all lines held held' went (inr (begins, inl is)) on = absurd (goes_not_stopped (Run run.Writing) (on ∙ is))
told_all lines held held' went (inr (begins, inr is)) on = absurd (goes_not_stopped (Run run.OutOfMemory) (on ∙ is))

-- with none outstanding it goes on
pub goes_with_none : (went : Went) (unknown : ℕ) → unknown ≡ 0 → Onward went unknown → goes ≡ went
goes_with_none went unknown none (inl on) = on
goes_with_none went unknown none (inr some) = absurd (omega (arith, none, some))

-- where it stopped some are outstanding
pub some_where_stopped : (stop : KeptStop) (went : Went) (unknown : ℕ) → went ≡ stopped stop → Onward went unknown
    → 1 ≤ unknown
some_where_stopped stop went unknown is (inl on) = absurd (goes_not_stopped stop (on ∙ is))
some_where_stopped stop went unknown is (inr some) = some

-- both hold
pub both : (a b : Bool) → (a && b) ≡ true → (a ≡ true) × (b ≡ true)
both true b is = (refl, is)
both false b is = absurd (let not_so : false ≡ true = is in cc)

module _ {C I O K : Type 0} (opens : C → Option (I × O) → C → Type 0) (closes : C → I → O → C → Type 0)
    (remaining : I → Option (List ℕ)) (contents : O → Option (List ℕ)) (leaves : K → KeptServer → Type 0)
    (is_clean : K → Type 0) (saves fails : K → KeptServer → K → Type 0) (form : Form) where
  abbrev At : Type 0
  At = Standing (SenderOver C I O) K

  -- These were taken: messages whose codes were told, each under its number, and behind them so many that are lost, of
  -- which nothing was told.
  pub record Told (all : List (List ℕ)) (x x' : At) (was is : Bool) (unknown' : ℕ) : Type 0 where
    pub messages : List (List ℕ)
    pub lost : List (List ℕ)
    pub codes : List Code
    pub lines : List ℕ
    pub are_all : all ≡ messages ++ lost
    pub many : length lost ≡ unknown'
    pub answers : AreAnswers form (x.progress.taken + 1) messages (replied codes) lines
    pub appended : Appends x.held x'.held lines
    pub counted : x'.progress.taken ≡ x.progress.taken + (length codes + unknown')
    pub applied : is ≡ true → (was ≡ true) × (list_all is_applied codes ≡ true)

  told_none : (x : At) (is : Bool) (unknown' : ℕ) → unknown' ≡ 0 → Told [] x x is is unknown'
  told_none x is unknown' none = record {
    messages = [];
    lost = [];
    codes = [];
    lines = [];
    are_all = refl;
    many = sym none;
    answers = refl;
    appended = appends_nothing x.held;
    counted = omega (arith, none);
    applied = λ all_so. (all_so, refl);
  }

  told_on : (s t : List (List ℕ)) (x y z : At) (a b c : Bool) (unknown' : ℕ) → Told s x y a b 0
      → Told t y z b c unknown' → Told (s ++ t) x z a c unknown'
  told_on s t x y z a b c unknown' one rest =
      let counted = one.counted in
      let number = replied_count one.codes in
      let place : y.progress.taken + 1 ≡ x.progress.taken + 1 + length (replied one.codes) =
      omega (arith, counted, number) in
      record {
        messages = one.messages ++ rest.messages;
        lost = rest.lost;
        codes = one.codes ++ rest.codes;
        lines = one.lines ++ rest.lines;
        are_all = ap (λ l. l ++ t) (none_lost s one.messages one.lost one.are_all one.many)
            ∙ ap (λ l. one.messages ++ l) rest.are_all ∙ sym (append_assoc one.messages rest.messages rest.lost);
        many = rest.many;
        answers = subst (λ l. AreAnswers form (x.progress.taken + 1) (one.messages ++ rest.messages) l
            (one.lines ++ rest.lines))
            (sym (replied_append one.codes rest.codes))
            (answers_append form (x.progress.taken + 1) one.messages rest.messages (replied one.codes)
            (replied rest.codes) one.lines rest.lines one.answers
            (subst (λ n. AreAnswers form n rest.messages (replied rest.codes) rest.lines) place rest.answers));
        appended = appends_then x.held y.held z.held one.lines rest.lines one.appended rest.appended;
        counted = (let a = rest.counted in let b = length-append one.codes rest.codes in
            omega (arith, a, b, counted));
        applied = λ all_so.
            (let later = rest.applied all_so in let before = one.applied later.0 in (
              before.0,
              list_all-append is_applied one.codes rest.codes
                  ∙ ap (λ d. d && list_all is_applied rest.codes) before.1 ∙ later.1,
            ));
      }

  -- ---- A batch.

  all_told : (batch : List (List ℕ)) (settled : Settled) (x x' : At) → x.runs.sender.server.held ≡ []
      → SendsKept opens closes remaining contents saves fails x'.progress (submitted_all x.runs batch) x'.runs x.keeper
      x'.keeper (Ok settled) → length settled.codes.items ≡ length batch
  all_told batch settled x x' idle (inl (between, saved, (acknowledges, again))) =
      let number = acknowledges.all in let wait = all_wait x.runs batch in
      let none : length (waiting x.runs.sender.server) ≡ 0 =
      ap (λ hs. length (waiting (record x.runs.sender.server { held = hs }))) idle in
      omega (arith, number, wait, none)
  all_told batch settled x x' idle (inr (is, same, failed)) =
      absurd (let no : Ok settled ≡ Err kept.StateFailed = is in cc)

  -- as many messages wait as an idle server takes of a batch
  all_waiting : (batch : List (List ℕ)) (x : At) → x.runs.sender.server.held ≡ []
      → length (waiting (submitted_all x.runs batch).sender.server) ≡ length batch
  all_waiting batch x idle =
      let wait = all_wait x.runs batch in
      let none : length (waiting x.runs.sender.server) ≡ 0 =
      ap (λ hs. length (waiting (record x.runs.sender.server { held = hs }))) idle in
      omega (arith, wait, none)

  told_batch : (batch : List (List ℕ)) (ended : Ended) (x x' : At) (was is : Bool) (unknown' : ℕ) (went : Went)
      → is ≡ was && are_applied ended → x.runs.sender.server.held ≡ []
      → SendsOne opens closes remaining contents leaves is_clean saves fails batch ended x x'
      → AnswersTold (Numbered form) (RepliesOf (Numbered form) x'.progress.taken
      (waiting (submitted_all x.runs batch).sender.server)) x'.runs.sender.server.counts ended x.held x'.held
      went
      → unknown' ≡ unknown_of (length batch) ended → Onward went unknown' → Told batch x x' was is unknown'
  told_batch batch (Ok settled) x x' was is unknown' went apply idle one (told, is_told, tells) are onward =
      let number : length settled.codes.items ≡ length batch = all_told batch settled x x' idle one.sends in
      let taken : x'.progress.taken ≡ x.progress.taken + length batch =
      ap (λ (p : Progress). p.taken) one.progress in
      let first : x'.progress.taken + 1 - length settled.codes.items ≡ x.progress.taken + 1 =
      omega (arith, number, taken) in
      record {
        messages = batch;
        lost = [];
        codes = settled.codes.items;
        lines = told;
        are_all = sym (append-nil batch);
        many = sym are;
        answers = subst (λ n. AreAnswers form n batch (replied settled.codes.items) told) first
            (subst (λ ms. AreAnswers form (x'.progress.taken + 1 - length settled.codes.items) ms
            (replied settled.codes.items) told) (batch_waits x.runs batch idle)
            (replies_told form (x'.progress.taken + 1 - length settled.codes.items)
            (waiting (submitted_all x.runs batch).sender.server) settled told
            (all_waiting batch x idle ∙ sym number) is_told));
        appended = told_all told x.held x'.held went tells (goes_with_none went unknown' are onward);
        counted = omega (arith, number, taken, are);
        applied = λ all_so. both was (list_all is_applied settled.codes.items) (sym apply ∙ all_so);
      }
  told_batch batch (Err (kept.Outstanding TriesSpent)) x x' was is unknown' went apply idle one (same, stops) are
      onward =
      let taken : x'.progress.taken ≡ x.progress.taken + length batch =
      ap (λ (p : Progress). p.taken) one.progress in
      record {
        messages = [];
        lost = batch;
        codes = [];
        lines = [];
        are_all = refl;
        many = sym are;
        answers = refl;
        appended = subst (λ h. Appends x.held h []) (sym same) (appends_nothing x.held);
        counted = omega (arith, taken, are);
        applied = λ all_so. ((both was true (sym apply ∙ all_so)).0, refl);
      }
  told_batch batch (Err (kept.Outstanding ConnectionFailed)) x x' was is unknown' went apply idle one (same, stops) are
      onward =
      absurd (goes_not_stopped (stop_for x'.runs.sender.server.counts ConnectionFailed)
      (goes_with_none went unknown' are onward ∙ stops))
  told_batch batch (Err kept.StateFailed) x x' was is unknown' went apply idle one (same, stops) are onward =
      absurd (goes_not_stopped StateFailed (goes_with_none went unknown' are onward ∙ stops))

  told_some : (batch : List (List ℕ)) (x x' : At) (applied applied' : Bool) (unknown unknown' : ℕ) (went : Went)
      → x.runs.sender.server.held ≡ [] → unknown ≡ 0
      → SendsSome opens closes remaining contents leaves is_clean saves fails (Numbered form) batch x x' applied
      applied' unknown
      unknown' went → Onward went unknown' → Told batch x x' applied applied' unknown'
  told_some batch x x' applied applied' unknown unknown' went idle zero_is (inl (none, same, apply, are, is)) onward =
      subst (λ ms. Told ms x x' applied applied' unknown') (sym none)
      (subst (λ y. Told [] x y applied applied' unknown') (sym same)
      (subst (λ b. Told [] x x b applied' unknown') apply (told_none x applied' unknown' (are ∙ zero_is))))
  told_some batch x x' applied applied' unknown unknown' went idle zero_is
      (inr (some, (ended, one, tells, apply, are))) onward =
      told_batch batch ended x x' applied applied' unknown' went apply idle one tells are onward

  -- ---- Turns.

  module _ (input : Input) (size : ℕ) (strict : Bool) where
    abbrev LiveAt : Type 0
    LiveAt = Live (SenderOver C I O) K

    abbrev OneTurn : (x x' : LiveAt) → After → Went → Type 0
    OneTurn = Turn opens closes remaining contents leaves is_clean saves fails form input size strict

    told_turn : (x x' : LiveAt) (after : After) (went : Went) → x.sends.runs.sender.server.held ≡ [] → x.unknown ≡ 0
        → (turn : OneTurn x x' after went) → Onward went x'.unknown
        → Told turn.messages x.sends x'.sends x.applied x'.applied x'.unknown
    told_turn x x' after went idle none turn onward =
        told_some turn.messages x.sends x'.sends x.applied x'.applied x.unknown x'.unknown went idle none turn.sends
        onward

    turn_idle : (x x' : LiveAt) (after : After) → x.sends.runs.sender.server.held ≡ [] → OneTurn x x' after goes
        → x'.sends.runs.sender.server.held ≡ []
    turn_idle x x' after idle turn =
        let (taken, mid, part, next) = turn_part opens closes remaining contents leaves is_clean saves fails form input
        size
        strict x x' after goes turn in part.called.idle refl idle

    -- the messages of so many turns
    abbrev gone : (n : ℕ) → (x y : LiveAt)
        → GoesOnFor opens closes remaining contents leaves is_clean saves fails form input size strict n x y
        → List (List ℕ)
    gone = of_going opens closes remaining contents leaves is_clean saves fails form input size strict

    -- where a run stands after some turns
    record Going (all : List (List ℕ)) (x y : LiveAt) : Type 0 where
      pub told : Told all x.sends y.sends x.applied y.applied 0
      pub idle : y.sends.runs.sender.server.held ≡ []
      pub none : y.unknown ≡ 0

    told_going : (n : ℕ) (x y : LiveAt) → x.sends.runs.sender.server.held ≡ [] → x.unknown ≡ 0
        → (turns : GoesOnFor opens closes remaining contents leaves is_clean saves fails form input size strict n x y)
        → Going (gone n x y turns) x y
    told_going zero x y idle none same = subst (λ (z : LiveAt). Going [] x z) (sym same) (record {
      told = told_none x.sends x.applied 0 refl;
      idle = idle;
      none = none;
    })
    told_going (suc n) x z idle none (y, before, turn) =
        let so = told_going n x y idle none before in
        let zero_is = turn_unknown opens closes remaining contents leaves is_clean saves fails form input size strict y
        z GoesOn so.none turn in record {
          told = told_on (gone n x y before) turn.messages x.sends y.sends z.sends x.applied y.applied z.applied 0
              so.told
              (subst (λ u. Told turn.messages y.sends z.sends y.applied z.applied u) zero_is
              (told_turn y z GoesOn goes so.idle so.none turn (inl refl)));
          idle = turn_idle y z GoesOn so.idle turn;
          none = zero_is;
        }

    pub told_turns : (x x' : LiveAt) (went : Went) → x.sends.runs.sender.server.held ≡ [] → x.unknown ≡ 0
        → (turns : RunsTurns opens closes remaining contents leaves is_clean saves fails form input size strict x x'
        went)
        → Onward went x'.unknown
        → Told (of_turns opens closes remaining contents leaves is_clean saves fails form input size strict x x' went
        turns) x.sends x'.sends x.applied x'.applied x'.unknown
    told_turns x x' went idle none (n, y, before, inl (inl (end, turn, is))) onward =
        let so = told_going n x y idle none before in
        told_on (gone n x y before) turn.messages x.sends y.sends x'.sends x.applied y.applied x'.applied x'.unknown
        so.told (told_turn y x' (Ends end) goes so.idle so.none turn (inl refl))
    told_turns x x' went idle none (n, y, before, inl (inr (after, stop, turn, is))) onward =
        let so = told_going n x y idle none before in
        told_on (gone n x y before) turn.messages x.sends y.sends x'.sends x.applied y.applied x'.applied x'.unknown
        so.told
        (told_turn y x' after (stopped stop) so.idle so.none turn
        (inr (some_where_stopped stop went x'.unknown is onward)))
    told_turns x x' went idle none (n, y, before, inr (all, same, is)) onward =
        let so = told_going n x y idle none before in
        subst (λ (z : LiveAt). Told (gone n x y before) x.sends z.sends x.applied z.applied z.unknown) (sym same)
        (subst (λ u. Told (gone n x y before) x.sends y.sends x.applied y.applied u) (sym so.none) so.told)

    -- a run that goes on leaves none outstanding
    pub turns_unknown : (x x' : LiveAt) (went : Went) → x.sends.runs.sender.server.held ≡ [] → x.unknown ≡ 0
        → RunsTurns opens closes remaining contents leaves is_clean saves fails form input size strict x x' went
        → goes ≡ went → x'.unknown ≡ 0
    turns_unknown x x' went idle none (n, y, before, inl (inl (end, turn, is))) on =
        let so = told_going n x y idle none before in turn_unknown opens closes remaining contents leaves is_clean saves
        fails
        form input size strict y x' (Ends end) so.none turn
    turns_unknown x x' went idle none (n, y, before, inl (inr (after, stop, turn, is))) on =
        absurd (goes_not_stopped stop (on ∙ is))
    turns_unknown x x' went idle none (n, y, before, inr (all, same, is)) on =
        absurd (goes_not_stopped (Run run.Reading) (on ∙ is))
