-- What senders tell that run one after another, and what a whole run tells.
use Rattle.std.proofs.Common.{arith, ◌≡◌, ◌⊎◌, ℕ, zero, suc, ◌+◌, ◌-◌, Bool, true, false, List, [], ◌++◌, length}
use Rattle.std.proofs.Common.{Option, Ok, refl, sym, ap, subst, ◌∙◌, inl, inr, append_assoc, append-nil, length-append}
use Rattle.std.specs.Io.KnownBytes.{Appends}
use Rattle.std.specs.List.{list_all}
use Rattle.uecp_elements.specs.declared.code.Code.{Code}
use Rattle.uecp_text.proofs.Public.{appends_nothing, appends_then}
use Rattle.uecp_link.specs.Server.{ServerState, waiting}
use Rattle.uecp_net.specs.Sending.{SenderOver}
use Rattle.uecp_net.specs.declared.saved.keep.Progress.{Progress}
use Rattle.uecp_net.specs.Keeping.{KeptServer, kept_of}
use Rattle.kept_jobs.specs.declared.stop.KeptStop.TheVariants.{StateFailed}
use Rattle.kept_jobs.specs.Stops.{Went, Then, TellsKept}
use Rattle.kept_jobs.specs.ServerRun.{Standing, sending, is_due}
use Rattle.kept_jobs.proofs.Public.{goes, stopped, goes_not_stopped, HasBegun}
use Rattle.line_batches.specs.declared.intake.Given.{Given}
use Rattle.line_batches.specs.Intake.{Intake, TakesLines, messages_in}
use Rattle.sending.specs.declared.options.LiveOptions.{LiveOptions}
use Rattle.output_forms.specs.declared.form.Form.{Form}
use Rattle.sending.specs.Beginning.{TellsTaken, BeginsAnew, BeginsAnewIf}
use Rattle.sending.specs.Forms.{AreHeld, taken_in, given_up_in, unknown_in}
use Rattle.sending.specs.Run.{Renews, marks_in}
use Rattle.promises.proofs.OverLines.{Live, RunsOne, RunsAgain, RunsFor, LivesFrom}
use Rattle.promises.specs.Taken.{ComesToEnd}
use Rattle.promises.specs.LiveTold.{was_applied, AreAnswers, anew_lines, IsToldFirst, IsToldBetween, TellsFor, TellsAll}
use Rattle.promises.proofs.Begun.{has_begun}
use Rattle.promises.proofs.LiveAnswering.{replied, replied_count, replied_applied, unknown, unknown_count, unknown_told}
use Rattle.promises.proofs.LiveAnswering.{none_lost, tells_more}
use Rattle.promises.proofs.LiveTelling.{Onward, told_all, goes_with_none}
use Rattle.promises.proofs.Speaking.{IsFront, Spoke, spoke, spoke_unknown}
use Rattle.promises.proofs.RunMessages.{of_run, of_one, of_again, of_senders}
use Rattle.promises.proofs.Runs.{senders}

module _ {C I O K : Type 0} (opens : C → Option (I × O) → C → Type 0) (closes : C → I → O → C → Type 0)
    (remaining : I → Option (List ℕ)) (contents : O → Option (List ℕ)) (leaves : K → KeptServer → Type 0)
    (is_clean : K → Type 0) (saves fails : K → KeptServer → K → Type 0) where
  abbrev Was : Type 0
  Was = Standing ServerState K

  abbrev LiveWas : Type 0
  LiveWas = Live ServerState K

  module _ (options : LiveOptions) (x0 : Was) (due : Bool) (due_is : is_due options.join x0.progress ≡ due) where
    abbrev HasBegunSo : (by : Bool) → Was → Type 0
    HasBegunSo by x = HasBegun leaves is_clean saves fails by x0 x

    abbrev FrontOf : (by : Bool) → C → (loan : ℕ) → Was → List ℕ → Type 0
    FrontOf by c loan x text =
        IsFront opens closes remaining contents leaves is_clean saves fails options by
        (sending opens closes remaining contents leaves is_clean saves fails c loan options.limits x) text

    -- where a run stands that goes on with a new server
    abbrev anew_at : LiveWas → Was → LiveWas
    anew_at x y = record { sends = y; takes = x.takes; applied = false; unknown = 0; behind = x.behind }

    -- where a sender stands at its start
    abbrev sent_from : C → (loan : ℕ) → LiveWas → Live (SenderOver C I O) K
    sent_from c loan x = record {
      sends = sending opens closes remaining contents leaves is_clean saves fails c loan options.limits x.sends;
      takes = x.takes;
      applied = x.applied;
      unknown = x.unknown;
      behind = x.behind;
    }

    -- the first message of the lines that has a line
    abbrev first : ℕ
    first = x0.progress.taken + 1

    -- What senders told that took these messages: a line of each but the last, which are lost; or they took none, and
    -- what waited is unknown.
    record ToldFor (n : ℕ) (all : List (List ℕ)) (x x' : LiveWas) : Type 0 where
      pub messages : List (List ℕ)
      pub lost : List (List ℕ)
      pub answers : List (Option Code)
      pub text : List ℕ
      pub are_all : all ≡ messages ++ lost
      pub tells : TellsFor options x0.progress x0.runs n messages answers text
      pub appended : Appends x.sends.held x'.sends.held text
      pub counted : ((x'.sends.progress.taken ≡ x0.progress.taken + (length answers + x'.unknown))
          × (length lost ≡ x'.unknown))
          ⊎ ((answers ≡ []) × (x'.sends.progress.taken ≡ x0.progress.taken)
          × (x'.unknown ≡ length (marks_in x0.runs)) × (length lost ≡ 0))
      pub applied : x'.applied ≡ true → list_all was_applied answers ≡ true

    -- ---- The first sender.

    front_first : (by : Bool) (x : Was) → HasBegunSo by x → (c : C) (loan : ℕ) (text : List ℕ)
        → FrontOf by c loan x text → IsToldFirst options x0.progress x0.runs by text
    front_first false x (runs, progress) c loan text (inl is) = inl is
    front_first false x (runs, progress) c loan text (inr (settled, is)) =
        inr (
          settled,
          subst (λ (r : ServerState). AreHeld options.form (x0.progress.taken + 1 - length (marks_in r)) (marks_in r)
              (waiting r) settled text) runs
              (subst (λ (p : Progress). AreHeld options.form (p.taken + 1 - length (marks_in x.runs))
              (marks_in x.runs) (waiting x.runs) settled text) progress is),
        )
    front_first true x (runs, progress) c loan text told = told

    same_taken : (by : Bool) (x : Was) → HasBegunSo by x → x.progress.taken ≡ x0.progress.taken
    same_taken false x (runs, progress) = ap (λ p. p.taken) progress
    same_taken true x (runs, progress) = ap (λ p. p.taken) progress

    begun_idle : (by : Bool) (x : Was) → HasBegunSo by x → by ≡ true → x.runs.held ≡ []
    begun_idle false x begun is = absurd (let no : false ≡ true = is in cc)
    begun_idle true x (runs, progress) is = ap (λ (r : ServerState). r.held) runs

    same_marks : (by : Bool) (x : Was) → HasBegunSo by x → by ≡ false
        → length (marks_in x.runs) ≡ length (marks_in x0.runs)
    same_marks false x (runs, progress) is = ap (λ (r : ServerState). length (marks_in r)) runs
    same_marks true x begun is = absurd (let no : true ≡ false = is in cc)

    told_first : (c c' : C) (x x' : LiveWas) (went : Went) → HasBegunSo due x.sends → x.unknown ≡ 0
        → (runs : RunsOne opens closes remaining contents leaves is_clean saves fails options due c c' x x' went)
        → Onward went x'.unknown
        → ToldFor 0
        (of_one opens closes remaining contents leaves is_clean saves fails options due c c' x x' went runs) x x'
    told_first c c' x x' went has none (loan, z, runs, finishes, is) onward =
        let s = spoke opens closes remaining contents leaves is_clean saves fails options due
        (sent_from c loan x) z went
        (begun_idle due x.sends has) none runs
        (subst (λ (v : LiveWas). Onward went v.unknown) is onward) in
        subst (λ (v : LiveWas). ToldFor 0 (of_run opens closes remaining contents leaves is_clean saves fails options
        due (sent_from c loan x) z went runs) x v) (sym is) (record {
          messages = s.messages;
          lost = s.lost;
          answers = replied s.codes;
          text = s.front ++ s.lines;
          are_all = s.are_all;
          tells = (
            s.front,
            s.lines,
            subst (λ b. IsToldFirst options x0.progress x0.runs b s.front) (sym due_is)
                (front_first due x.sends has c loan s.front s.is_front),
            subst (λ n. AreAnswers options.form (n + 1) s.messages (replied s.codes) s.lines)
                (same_taken due x.sends has) s.answers,
            refl,
          );
          appended = s.appended;
          counted = by s.codes s.lost (same_taken due x.sends has) s.counted;
          applied = λ all_so. replied_applied s.codes ∙ (s.applied all_so).1;
        })
      where
        by : (codes : List Code) (lost : List (List ℕ)) → x.sends.progress.taken ≡ x0.progress.taken
            → ((z.sends.progress.taken ≡ x.sends.progress.taken + (length codes + z.unknown))
            × (length lost ≡ z.unknown))
            ⊎ ((due ≡ false) × (codes ≡ [])
            × (z.sends.progress.taken ≡ x.sends.progress.taken)
            × (z.unknown ≡ length (marks_in x.sends.runs)) × (length lost ≡ 0))
            → ((z.sends.progress.taken ≡ x0.progress.taken + (length (replied codes) + z.unknown))
            × (length lost ≡ z.unknown))
            ⊎ ((replied codes ≡ []) × (z.sends.progress.taken ≡ x0.progress.taken)
            × (z.unknown ≡ length (marks_in x0.runs)) × (length lost ≡ 0))
        by codes lost same (inl (a, many)) =
            inl ((let number = replied_count codes in omega (arith, a, same, number)), many)
        by codes lost same (inr (not_due, none_is, taken, all, none_lost_is)) =
            inr (ap replied none_is, taken ∙ same, all ∙ same_marks due x.sends has not_due, none_lost_is)

    -- ---- The senders after it.

    renewed_told : (many : ℕ) (x y : Was) → Renews leaves is_clean saves fails options.form many x y goes
        → Appends x.held y.held (unknown_in options.form (x.progress.taken + 1 - many) many)
    renewed_told many x y renews = by renews.saved
      where
        by : (saves x.keeper (kept_of y.progress y.runs) y.keeper
            × TellsKept (unknown_in options.form (x.progress.taken + 1 - many) many) (Ok tt) x.held y.held goes)
            ⊎ (fails x.keeper (kept_of y.progress y.runs) y.keeper × (y.held ≡ x.held)
            × (goes ≡ stopped StateFailed))
            → Appends x.held y.held (unknown_in options.form (x.progress.taken + 1 - many) many)
        by (inl (saved, tells)) = told_all _ x.held y.held goes tells refl
        by (inr (failed, same, is)) = absurd (goes_not_stopped StateFailed is)

    -- one sender more, behind what was told before
    told_more : (n : ℕ) (a b : List (List ℕ)) (x y x' : LiveWas) (w : Was) (first_ones : List (List ℕ))
        (earlier : List (Option Code)) (before between front : List ℕ) (messages lost : List (List ℕ))
        (codes : List Code) (lines : List ℕ) → a ≡ first_ones → b ≡ messages ++ lost → length lost ≡ x'.unknown
        → TellsFor options x0.progress x0.runs n first_ones earlier before
        → IsToldBetween options x0.progress x0.runs between
        → w.progress.taken ≡ x0.progress.taken + length earlier
        → Appends x.sends.held w.held (before ++ front) → (rest : List ℕ) → between ≡ front ++ rest
        → AreAnswers options.form (w.progress.taken + 1) messages (replied codes) lines
        → Appends w.held x'.sends.held (rest ++ lines)
        → x'.sends.progress.taken ≡ w.progress.taken + (length codes + x'.unknown) → (x'.applied ≡ true → ⊥)
        → ToldFor (suc n) (a ++ b) x x'
    told_more n a b x y x' w first_ones earlier before between front messages lost codes lines a_is b_is many tells
        is_between taken so_far rest split are then counted never =
        let place : w.progress.taken + 1 ≡ first + length earlier = omega (arith, taken) in
        let all : (before ++ front) ++ (rest ++ lines) ≡ before ++ (between ++ lines) =
        append_assoc before front (rest ++ lines)
        ∙ ap (λ l. before ++ l) (sym (append_assoc front rest lines))
        ∙ ap (λ l. before ++ (l ++ lines)) (sym split) in
        record {
          messages = first_ones ++ messages;
          lost = lost;
          answers = earlier ++ replied codes;
          text = before ++ (between ++ lines);
          are_all = ap (λ l. l ++ b) a_is ∙ ap (λ l. first_ones ++ l) b_is
              ∙ sym (append_assoc first_ones messages lost);
          tells = (
            first_ones,
            messages,
            earlier,
            replied codes,
            before,
            between,
            lines,
            tells,
            is_between,
            refl,
            refl,
            subst (λ m. AreAnswers options.form m messages (replied codes) lines) place are,
            refl,
          );
          appended = subst (λ l. Appends x.sends.held x'.sends.held l) all
              (appends_then x.sends.held w.held x'.sends.held (before ++ front) (rest ++ lines) so_far then);
          counted = inl (
            (let number = replied_count codes in let sum = length-append earlier (replied codes) in
                omega (arith, counted, taken, number, sum)),
            many,
          );
          applied = λ all_so. absurd (never all_so);
        }

    -- what is left of a sender that hangs up
    abbrev ended : Live (SenderOver C I O) K → LiveWas
    ended z = record {
      sends = record {
        runs = z.sends.runs.sender.server;
        keeper = z.sends.keeper;
        progress = z.sends.progress;
        held = z.sends.held;
      };
      takes = z.takes;
      applied = z.applied;
      unknown = z.unknown;
      behind = z.behind;
    }

    abbrev SpokeOf : C → (loan : ℕ) → Was → List (List ℕ) → Live (SenderOver C I O) K → Type 0
    SpokeOf c loan w all z =
        Spoke opens closes remaining contents leaves is_clean saves fails options true all
        (sending opens closes remaining contents leaves is_clean saves fails c loan options.limits w) z.sends false
        z.applied
        z.unknown

    spoke_counted : (c : C) (loan : ℕ) (w : Was) (all : List (List ℕ)) (z : Live (SenderOver C I O) K)
        (s : SpokeOf c loan w all z)
        → (z.sends.progress.taken ≡ w.progress.taken + (length s.codes + z.unknown)) × (length s.lost ≡ z.unknown)
    spoke_counted c loan w all z s = by s.counted
      where
        by : ((z.sends.progress.taken ≡ w.progress.taken + (length s.codes + z.unknown)) × (length s.lost ≡ z.unknown))
            ⊎ ((true ≡ false) × (s.codes ≡ []) × (z.sends.progress.taken ≡ w.progress.taken)
            × (z.unknown ≡ length (marks_in w.runs)) × (length s.lost ≡ 0))
            → (z.sends.progress.taken ≡ w.progress.taken + (length s.codes + z.unknown)) × (length s.lost ≡ z.unknown)
        by (inl a) = a
        by (inr (is, none_is, taken, waited, none_lost_is)) = absurd (let never : true ≡ false = is in cc)

    never_applied : (c : C) (loan : ℕ) (w : Was) (all : List (List ℕ)) (z : Live (SenderOver C I O) K)
        → SpokeOf c loan w all z → z.applied ≡ true → ⊥
    never_applied c loan w all z s all_so = absurd (let never : false ≡ true = (s.applied all_so).0 in cc)

    told_again : (n : ℕ) (a b : List (List ℕ)) (x y : LiveWas) (w : Was) (c : C) (loan : ℕ)
        (z : Live (SenderOver C I O) K) (so : ToldFor n a x y) → w.progress.taken ≡ y.sends.progress.taken
        → Appends y.sends.held w.held (unknown_in options.form (y.sends.progress.taken + 1 - y.unknown) y.unknown)
        → (s : SpokeOf c loan w b z)
        → ((y.sends.progress.taken ≡ x0.progress.taken + (length so.answers + y.unknown))
        × (length so.lost ≡ y.unknown))
        ⊎ ((so.answers ≡ []) × (y.sends.progress.taken ≡ x0.progress.taken)
        × (y.unknown ≡ length (marks_in x0.runs)) × (length so.lost ≡ 0))
        → ToldFor (suc n) (a ++ b) x (ended z)
    told_again n a b x y w c loan z so same given_up s (inl (count, many)) =
        let gone = unknown y.unknown in
        let number = unknown_count y.unknown in
        let place : y.sends.progress.taken + 1 - y.unknown ≡ first + length so.answers = omega (arith, count) in
        let lines = unknown_in options.form (y.sends.progress.taken + 1 - y.unknown) y.unknown in
        let sum : length (so.answers ++ gone) ≡ length so.answers + length gone = length-append so.answers gone in
        let are : AreAnswers options.form (first + length so.answers) so.lost gone lines =
        subst (λ m. AreAnswers options.form m so.lost gone lines) place
        (unknown_told options.form (y.sends.progress.taken + 1 - y.unknown) y.unknown so.lost many) in
        let spoken = spoke_counted c loan w b z s in
        told_more n a b x y (ended z) w (so.messages ++ so.lost) (so.answers ++ gone) (so.text ++ lines) s.front []
        s.messages s.lost s.codes s.lines so.are_all s.are_all spoken.1
        (tells_more options x0.progress x0.runs n so.messages so.lost so.answers gone so.text lines so.tells are)
        ([], s.is_front.0, inl refl, s.is_front.1)
        (omega (arith, same, count, number, sum))
        (subst (λ l. Appends x.sends.held w.held l) (sym (append-nil (so.text ++ lines)))
        (appends_then x.sends.held y.sends.held w.held so.text lines so.appended given_up))
        s.front refl s.answers s.appended spoken.0 (never_applied c loan w b z s)
    told_again n a b x y w c loan z so same given_up s (inr (none_is, taken, all, none_lost_is)) =
        let waited = unknown_in options.form (y.sends.progress.taken + 1 - y.unknown) y.unknown in
        let zero_is : length so.answers ≡ 0 = ap length none_is in
        let spoken = spoke_counted c loan w b z s in
        told_more n a b x y (ended z) w so.messages so.answers so.text (waited ++ s.front) waited s.messages s.lost
        s.codes s.lines (none_lost a so.messages so.lost so.are_all none_lost_is) s.are_all spoken.1 so.tells (
          waited,
          s.is_front.0,
          inr (ap (λ n. unknown_in options.form (n + 1 - y.unknown) y.unknown) taken
              ∙ ap (λ m. unknown_in options.form (x0.progress.taken + 1 - m) m) all),
          ap (λ t. waited ++ t) s.is_front.1,
        )
        (omega (arith, same, taken, zero_is))
        (appends_then x.sends.held y.sends.held w.held so.text waited so.appended given_up) s.front refl s.answers
        s.appended spoken.0 (never_applied c loan w b z s)

    told_next : (n : ℕ) (a : List (List ℕ)) (address : ℕ) (d c' : C) (x y x' : LiveWas) (went : Went)
        → ToldFor n a x y
        → (runs : RunsAgain opens closes remaining contents leaves is_clean saves fails options address d c' y x' went)
        → Onward went x'.unknown
        → ToldFor (suc n)
        (a ++ of_again opens closes remaining contents leaves is_clean saves fails options address d c' y x' went runs)
        x x'
    told_next n a address d c' x y x' went so (w, new, inr (stop, renews, is, connect, same)) onward =
        absurd (goes_not_stopped stop
        (goes_with_none went x'.unknown (ap (λ (v : LiveWas). v.unknown) same) onward ∙ is))
    told_next n a address d c' x y x' went so (w, new, inl (renews, (loan, z, runs, finishes, is))) onward =
        let b = of_run opens closes remaining contents leaves is_clean saves fails options true
        (sent_from d loan (anew_at y w)) z went runs in
        subst (λ (v : LiveWas). ToldFor (suc n) (a ++ b) x v) (sym is)
        (told_again n a b x y w d loan z so (ap (λ (p : Progress). p.taken) renews.progress)
        (renewed_told y.unknown y.sends w renews)
        (spoke opens closes remaining contents leaves is_clean saves fails options true
        (sent_from d loan (anew_at y w)) z went
        (λ all_so. ap (λ (r : ServerState). r.held) new) refl runs
        (subst (λ (v : LiveWas). Onward went v.unknown) is onward)) so.counted)

    told_senders : (n : ℕ) (c c' : C) (x x' : LiveWas) (went : Went) → HasBegunSo due x.sends → x.unknown ≡ 0
        → (runs : RunsFor opens closes remaining contents leaves is_clean saves fails options due n c c' x x' went)
        → Onward went x'.unknown
        → ToldFor n
        (of_senders opens closes remaining contents leaves is_clean saves fails options due n c c' x x' went runs) x x'
    told_senders zero c c' x x' went has none runs onward = told_first c c' x x' went has none runs onward
    told_senders (suc n) c c' x x' went has none (d, y, stopped_so, before, rejoin, some, next) onward =
        told_next n _ x.sends.runs.address d c' x y x' went
        (told_senders n c d x y stopped_so has none before (inr some)) next onward

    one_unknown : (by : Bool) (c c' : C) (x x' : LiveWas) (went : Went) → (by ≡ true → x.sends.runs.held ≡ [])
        → x.unknown ≡ 0 → RunsOne opens closes remaining contents leaves is_clean saves fails options by c c' x x' went
        → goes ≡ went → x'.unknown ≡ 0
    one_unknown by c c' x x' went idle none (loan, z, runs, finishes, is) on =
        ap (λ (v : LiveWas). v.unknown) is
        ∙ spoke_unknown opens closes remaining contents leaves is_clean saves fails options by (sent_from c loan x) z
        went
        idle none runs on

    none_left : (n : ℕ) (c c' : C) (x x' : LiveWas) (went : Went) → HasBegunSo due x.sends → x.unknown ≡ 0
        → RunsFor opens closes remaining contents leaves is_clean saves fails options due n c c' x x' went
        → goes ≡ went → x'.unknown ≡ 0
    none_left zero c c' x x' went has none runs on =
        one_unknown due c c' x x' went (begun_idle due x.sends has) none runs on
    none_left (suc n) c c' x x' went has none (d, y, stopped_so, before, rejoin, some, (w, new, inl (renews, runs)))
        on =
        one_unknown true d c' (anew_at y w) x' went (λ all_so. ap (λ (r : ServerState). r.held) new) refl runs on
    none_left (suc n) c c' x x' went has none
        (d, y, stopped_so, before, rejoin, some, (w, new, inr (stop, renews, is, connect, same))) on =
        absurd (goes_not_stopped stop (on ∙ is))

  -- ---- The beginning.

  anew_told : (form : Form) (x y : Was) → BeginsAnew leaves is_clean saves fails form x y goes
      → Appends x.held y.held (given_up_in form (length (waiting x.runs)))
  anew_told form x y anew_so = by anew_so.saved
    where
      by : (saves x.keeper (kept_of y.progress y.runs) y.keeper
          × TellsKept (given_up_in form (length (waiting x.runs))) (Ok tt) x.held y.held goes)
          ⊎ (fails x.keeper (kept_of y.progress y.runs) y.keeper × (y.held ≡ x.held)
          × (goes ≡ stopped StateFailed)) → Appends x.held y.held (given_up_in form (length (waiting x.runs)))
      by (inl (saved, tells)) = told_all _ x.held y.held goes tells refl
      by (inr (failed, same, is)) = absurd (goes_not_stopped StateFailed is)

  begun_told : (form : Form) (due : Bool) (x y : Was)
      → Then (TellsTaken form) (BeginsAnewIf leaves is_clean saves fails form due) x y goes
      → Appends x.held y.held (taken_in form x.progress.taken (length (waiting x.runs)) ++ anew_lines form due x.runs)
  begun_told form false x y (inl (w, (same, tells), (is_y, is))) =
      let line = taken_in form x.progress.taken (length (waiting x.runs)) in
      appends_then x.held w.held y.held line [] (told_all line x.held w.held goes tells refl)
      (subst (λ (v : Was). Appends w.held v.held []) (sym is_y) (appends_nothing w.held))
  begun_told form true x y (inl (w, (same, tells), anew_so)) =
      let line = taken_in form x.progress.taken (length (waiting x.runs)) in
      appends_then x.held w.held y.held line (given_up_in form (length (waiting x.runs)))
      (told_all line x.held w.held goes tells refl)
      (subst (λ (v : Was). Appends w.held y.held (given_up_in form (length (waiting v.runs)))) same
      (anew_told form w y anew_so))
  begun_told form due x y (inr (stop, told, is)) = absurd (goes_not_stopped stop is)

  -- ---- A whole run.

  -- what a run took that came to its end, and what it told
  pub record WholeTold (options : LiveOptions) (x : LiveWas) (held' : Option (List ℕ)) (end : Intake) (is : Bool) : Type
      0 where
    pub lines : List (List ℕ × Given)
    pub again : ℕ
    pub mid : Intake
    pub takes : TakesLines options.reading.input lines x.takes mid
    pub once : options.rejoin ≡ false → again ≡ 0
    pub ends : ComesToEnd options.reading.input options.reading.strict lines mid end
    pub answers : List (Option Code)
    pub text : List ℕ
    pub number : length answers ≡ length (messages_in lines)
    pub tells : TellsAll options x.sends.progress x.sends.runs again (messages_in lines) answers text
    pub appended : Appends x.sends.held held' text
    pub applied : is ≡ true → list_all was_applied answers ≡ true

  pub whole_told : (options : LiveOptions) (c c' : C) (x : LiveWas) (k' : K) (held' : Option (List ℕ)) (end : Intake)
      (applied : Bool) (went : Went)
      → LivesFrom opens closes remaining contents leaves is_clean saves fails options c c' x k' held' end applied went
      → goes ≡ went → WholeTold options x held' end applied
  whole_told options c c' x k' held' end applied went
      (inl (y, again, z, begins, runs, last, keeper, held, takes, apply)) on =
      let due = is_due options.join x.sends.progress in
      let has = has_begun leaves is_clean saves fails options.form due x.sends y begins in
      let r = senders opens closes remaining contents leaves is_clean saves fails options x.sends due refl again c c' _
      z went has refl refl runs in
      let t = told_senders options x.sends due refl again c c' _ z went has refl runs (inl on) in
      let none = none_left options x.sends due refl again c c' _ z went has refl runs on in
      let begun = taken_in options.form x.sends.progress.taken (length (waiting x.sends.runs))
      ++ anew_lines options.form due x.sends.runs in
      subst (λ i. WholeTold options x held' i applied) (sym takes)
      (subst (λ h. WholeTold options x h z.takes applied) (sym held) (record {
        lines = r.lines;
        again = again;
        mid = r.mid;
        takes = r.takes;
        once = r.once;
        ends = r.done on;
        answers = t.answers;
        text = begun ++ t.text;
        number = by t.answers r.lines t.lost none r.counted t.counted;
        tells = (
          t.text,
          subst (λ ms. TellsFor options x.sends.progress x.sends.runs again ms t.answers t.text)
              (sym (r.give ∙ none_lost _ t.messages t.lost t.are_all (no_more t.answers t.lost none t.counted)))
              t.tells,
          refl,
        );
        appended = appends_then x.sends.held y.held z.sends.held begun t.text
            (begun_told options.form due x.sends y begins) t.appended;
        applied = λ all_so. t.applied (sym apply ∙ all_so);
      }))
    where
      by : (answers : List (Option Code)) (lines : List (List ℕ × Given)) (lost : List (List ℕ)) → z.unknown ≡ 0
          → z.sends.progress.taken ≡ x.sends.progress.taken + length (messages_in lines)
          → ((z.sends.progress.taken ≡ x.sends.progress.taken + (length answers + z.unknown))
          × (length lost ≡ z.unknown))
          ⊎ ((answers ≡ []) × (z.sends.progress.taken ≡ x.sends.progress.taken)
          × (z.unknown ≡ length (marks_in x.sends.runs)) × (length lost ≡ 0))
          → length answers ≡ length (messages_in lines)
      by answers lines lost none counted (inl (a, many)) = omega (arith, none, counted, a)
      by answers lines lost none counted (inr (none_is, same, all, none_lost_is)) =
          let zero_is = ap length none_is in omega (arith, counted, same, zero_is)

      no_more : (answers : List (Option Code)) (lost : List (List ℕ)) → z.unknown ≡ 0
          → ((z.sends.progress.taken ≡ x.sends.progress.taken + (length answers + z.unknown))
          × (length lost ≡ z.unknown))
          ⊎ ((answers ≡ []) × (z.sends.progress.taken ≡ x.sends.progress.taken)
          × (z.unknown ≡ length (marks_in x.sends.runs)) × (length lost ≡ 0)) → length lost ≡ 0
      no_more answers lost none (inl (a, many)) = many ∙ none
      no_more answers lost none (inr (none_is, same, all, none_lost_is)) = none_lost_is
  whole_told options c c' x k' held' end applied went
      (inr (y, stop, begins, is, connect, keeper, held, takes, apply)) on = absurd (goes_not_stopped stop (on ∙ is))
