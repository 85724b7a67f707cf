-- What one sender tells, from its first line on.
use Rattle.std.proofs.Common.{arith, ◌≡◌, ◌≢◌, ◌⊎◌, ℕ, ◌+◌, ◌-◌, ◌≤◌, Bool, true, false, List, [], ◌++◌}
use Rattle.std.proofs.Common.{length}
use Rattle.std.proofs.Common.{Option, Ok, Err, refl, sym, ap, subst, ◌∙◌, inl, inr, append-nil}
use Rattle.std.specs.Io.KnownBytes.{Appends}
use Rattle.std.specs.List.{list_all}
use Rattle.uecp_elements.specs.declared.code.Code.{Code}
use Rattle.uecp_text.proofs.Public.{appends_nothing, appends_then}
use Rattle.uecp_link.specs.Server.{waiting}
use Rattle.uecp_net.specs.declared.sender.Outstanding.TheVariants.{TriesSpent, ConnectionFailed}
use Rattle.uecp_net.specs.declared.sender.Settled.{Settled as SettledSo}
use Rattle.uecp_net.specs.Sending.{SenderOver}
use Rattle.uecp_jobs.specs.Batches.{fault_of}
use Rattle.uecp_net.specs.declared.saved.keep.Progress.{Progress}
use Rattle.uecp_net.specs.declared.saved.batch.KeptOutstanding.TheVariants as kept
use Rattle.uecp_net.specs.Keeping.{KeptServer}
use Rattle.uecp_net.specs.SavedSending.{Ended}
use Rattle.uecp_net.specs.SavedJoining.{Joined}
use Rattle.kept_jobs.specs.declared.stop.KeptStop.{KeptStop}
use Rattle.kept_jobs.specs.declared.stop.KeptStop.TheVariants.{Run, StateFailed}
use Rattle.kept_jobs.specs.Stops.{Went, stop_for}
use Rattle.kept_jobs.specs.ServerRun.{Standing}
use Rattle.kept_jobs.proofs.Public.{goes, stopped, goes_not_stopped, told_stops}
use Rattle.sending.specs.declared.options.LiveOptions.{LiveOptions}
use Rattle.line_batches.specs.declared.taking.After.{After}
use Rattle.line_batches.specs.declared.taking.After.TheVariants.{GoesOn, Ends}
use Rattle.output_forms.specs.declared.form.Form.{Form}
use Rattle.sending.specs.Lines.{is_applied}
use Rattle.sending.specs.declared.account.Account.TheVariants.{Numbered}
use Rattle.sending.specs.Accounts.{AreHeld as AreHeldBy}
use Rattle.sending.specs.Forms.{AreHeld, station_in, not_joined_in}
use Rattle.sending.specs.Station.{MakesOne, MakesIf, JoinedTold}
use Rattle.sending.specs.Run.{AnswersTold, SettlesLive, MakesOnce, SettlesOnce, marks_in, are_applied, unknown_of}
use Rattle.sending.specs.Run.{run_of}
use Rattle.promises.proofs.OverLines.{Live, RunsLive, RunsOn}
use Rattle.promises.specs.LiveTold.{AreAnswers}
use Rattle.promises.proofs.RunMessages.{of_run_on, of_run}
use Rattle.promises.proofs.LiveAnswering.{replied}
use Rattle.promises.proofs.Calls.{settles_idle}
use Rattle.promises.proofs.LiveMaking.{makes_idle}
use Rattle.promises.proofs.LiveTelling.{both, Onward, told_all, goes_with_none, some_where_stopped, told_turns}
use Rattle.promises.proofs.LiveTelling.{turns_unknown}

module _ {C I O K : Type 0} (opens : C → Option (I × O) → C → Type 0) (closes : C → I → O → C → Type 0)
    (remaining : I → Option (List ℕ)) (contents : O → Option (List ℕ)) (leaves : K → KeptServer → Type 0)
    (is_clean : K → Type 0) (saves fails : K → KeptServer → K → Type 0) where
  abbrev At : Type 0
  At = Standing (SenderOver C I O) K

  -- ---- The joining.

  -- what was told of an encoder that was joined
  abbrev MadeText : Form → (station : List (List ℕ)) → (x x' : At) → Type 0
  MadeText form station x x' = (told : List Code) × Appends x.held x'.held (station_in form station told)

  made_told : (form : Form) (size : ℕ) (station : List (List ℕ)) (x x' : At) (applied applied' : Bool)
      → MakesIf opens closes remaining contents leaves is_clean saves fails form size station true x x' applied applied'
      goes
      → MadeText form station x x'
  made_told form size station x x' applied applied' (told, joined, one, tells, apply) = by joined tells
    where
      by : (joined : Joined) → JoinedTold form (station_in form station told) joined x.held x'.held goes
          → MadeText form station x x'
      by (Ok done) tells = (told, told_all (station_in form station told) x.held x'.held goes tells refl)
      by (Err (kept.Outstanding reason)) tells =
          absurd (told_stops (not_joined_in form) (Run (fault_of reason)) x.held x'.held goes tells refl)
      by (Err kept.StateFailed) (same, is) = absurd (goes_not_stopped StateFailed is)

  made_taken : (form : Form) (size : ℕ) (station : List (List ℕ)) (x x' : At) (applied applied' : Bool)
      → MakesIf opens closes remaining contents leaves is_clean saves fails form size station true x x' applied applied'
      goes
      → x'.progress.taken ≡ x.progress.taken
  made_taken form size station x x' applied applied' (told, joined, one, tells, apply) = by joined one
    where
      by : (joined : Joined)
          → MakesOne opens closes remaining contents leaves is_clean saves fails form size station told joined x x'
          → x'.progress.taken ≡ x.progress.taken
      by (Ok done) one = ap (λ (p : Progress). p.taken) one.progress
      by (Err (kept.Outstanding reason)) one = ap (λ (p : Progress). p.taken) one.progress
      by (Err kept.StateFailed) one = ap (λ (p : Progress). p.taken) one.progress

  -- ---- What waited.

  -- what is told of what waited at a server
  abbrev pub IsHeldText : Form → At → (text : List ℕ) → Type 0
  IsHeldText form x text =
      (text ≡ []) ⊎ ((settled : SettledSo)
      × AreHeld form (x.progress.taken + 1 - length (marks_in x.runs.sender.server)) (marks_in x.runs.sender.server)
      (waiting x.runs.sender.server) settled text)

  record Settled (form : Form) (x x' : At) (unknown' : ℕ) : Type 0 where
    pub text : List ℕ
    pub is_text : IsHeldText form x text
    pub appended : Appends x.held x'.held text
    pub taken : x'.progress.taken ≡ x.progress.taken
    pub none : unknown' ≡ 0

  settled_told : (form : Form) (x x' : At) (applied applied' : Bool) (unknown unknown' : ℕ) → unknown ≡ 0
      → SettlesLive opens closes remaining contents leaves is_clean saves fails (Numbered form) x x' applied applied'
      unknown
      unknown'
      goes → Settled form x x' unknown'
  settled_told form x x' applied applied' unknown unknown' zero_is (inl (idle, same, apply, are, is)) =
      subst (λ y. Settled form x y unknown') (sym same) (record {
        text = [];
        is_text = inl refl;
        appended = appends_nothing x.held;
        taken = refl;
        none = are ∙ zero_is;
      })
  settled_told form x x' applied applied' unknown unknown' zero_is (inr (some, (ended, one, tells, apply, are))) =
      by ended (ap (λ (p : Progress). p.taken) one.progress) tells are
    where
      by : (ended : Ended) → x'.progress.taken ≡ x.progress.taken
          → AnswersTold (Numbered form) (AreHeldBy (Numbered form)
          (x'.progress.taken + 1 - length (marks_in x.runs.sender.server))
          (marks_in x.runs.sender.server) (waiting x.runs.sender.server)) x'.runs.sender.server.counts ended
          x.held x'.held goes
          → unknown' ≡ unknown_of (length (marks_in x.runs.sender.server)) ended → Settled form x x' unknown'
      by (Ok settled) taken (told, is_told, tells) are = record {
        text = told;
        is_text = inr (
          settled,
          subst (λ n. AreHeld form (n + 1 - length (marks_in x.runs.sender.server)) (marks_in x.runs.sender.server)
              (waiting x.runs.sender.server) settled told) taken is_told,
        );
        appended = told_all told x.held x'.held goes tells refl;
        taken = taken;
        none = are;
      }
      by (Err (kept.Outstanding reason)) taken (same, is) are =
          absurd (goes_not_stopped (stop_for x'.runs.sender.server.counts reason) is)
      by (Err kept.StateFailed) taken (same, is) are = absurd (goes_not_stopped StateFailed is)

  -- what waited is outstanding, with each try spent
  record Unsettled (x x' : At) (unknown' : ℕ) : Type 0 where
    pub appended : Appends x.held x'.held []
    pub taken : x'.progress.taken ≡ x.progress.taken
    pub all : unknown' ≡ length (marks_in x.runs.sender.server)
    pub some : x.runs.sender.server.held ≢ []

  unsettled : (form : Form) (x x' : At) (applied applied' : Bool) (unknown unknown' : ℕ) (stop : KeptStop) → 1 ≤
      unknown'
      → SettlesLive opens closes remaining contents leaves is_clean saves fails (Numbered form) x x' applied applied'
      unknown
      unknown'
      (stopped stop) → Unsettled x x' unknown'
  unsettled form x x' applied applied' unknown unknown' stop many (inl (idle, same, apply, are, is)) =
      absurd (goes_not_stopped stop (sym is))
  unsettled form x x' applied applied' unknown unknown' stop many (inr (some, (ended, one, tells, apply, are))) =
      by ended (ap (λ (p : Progress). p.taken) one.progress) tells are
    where
      by : (ended : Ended) → x'.progress.taken ≡ x.progress.taken
          → AnswersTold (Numbered form) (AreHeldBy (Numbered form)
          (x'.progress.taken + 1 - length (marks_in x.runs.sender.server))
          (marks_in x.runs.sender.server) (waiting x.runs.sender.server)) x'.runs.sender.server.counts ended
          x.held x'.held (stopped stop)
          → unknown' ≡ unknown_of (length (marks_in x.runs.sender.server)) ended → Unsettled x x' unknown'
      by (Ok settled) taken tells are = absurd (omega (arith, are, many))
      by (Err (kept.Outstanding TriesSpent)) taken (same, is) are = record {
        appended = subst (λ h. Appends x.held h []) (sym same) (appends_nothing x.held);
        taken = taken;
        all = are;
        some = some;
      }
      by (Err (kept.Outstanding ConnectionFailed)) taken tells are = absurd (omega (arith, are, many))
      by (Err kept.StateFailed) taken tells are = absurd (omega (arith, are, many))

  none_settled : (form : Form) (x x' : At) (applied applied' : Bool) (unknown unknown' : ℕ) (went : Went)
      → x.runs.sender.server.held ≡ []
      → SettlesLive opens closes remaining contents leaves is_clean saves fails (Numbered form) x x' applied applied'
      unknown
      unknown'
      went → (x' ≡ x) × (unknown' ≡ unknown) × (went ≡ goes)
  none_settled form x x' applied applied' unknown unknown' went idle (inl (none, same, apply, are, is)) = (
    same,
    are,
    is,
  )
  none_settled form x x' applied applied' unknown unknown' went idle (inr (some, settles)) = absurd (some idle)

  -- ---- Whether all was applied.

  made_applied : (form : Form) (size : ℕ) (station : List (List ℕ)) (due : Bool) (x x' : At) (applied applied' : Bool)
      (went : Went)
      → MakesIf opens closes remaining contents leaves is_clean saves fails form size station due x x' applied applied'
      went
      → applied' ≡ true → applied ≡ true
  made_applied form size station false x x' applied applied' went (same, apply, is) all_so = sym apply ∙ all_so
  made_applied form size station true x x' applied applied' went (told, joined, one, tells, apply) all_so =
      (both applied (list_all is_applied told) (sym apply ∙ all_so)).0

  settled_applied : (form : Form) (x x' : At) (applied applied' : Bool) (unknown unknown' : ℕ) (went : Went)
      → SettlesLive opens closes remaining contents leaves is_clean saves fails (Numbered form) x x' applied applied'
      unknown
      unknown'
      went → applied' ≡ true → applied ≡ true
  settled_applied form x x' applied applied' unknown unknown' went (inl (idle, same, apply, are, is)) all_so =
      sym apply ∙ all_so
  settled_applied form x x' applied applied' unknown unknown' went (inr (some, (ended, one, tells, apply, are))) all_so
      =
      (both applied (are_applied ended) (sym apply ∙ all_so)).0

  -- ---- One sender.

  module _ (options : LiveOptions) where
    abbrev LiveAt : Type 0
    LiveAt = Live (SenderOver C I O) K

    abbrev IsIdle : At → Type 0
    IsIdle x = x.runs.sender.server.held ≡ []

    abbrev pub IsFront : (by : Bool) → At → (text : List ℕ) → Type 0
    IsFront false x text = IsHeldText options.form x text
    IsFront true x text = (told : List Code) × (text ≡ station_in options.form options.station.now told)

    -- what was told before the turns
    record Front (by : Bool) (x z : LiveAt) : Type 0 where
      pub text : List ℕ
      pub is_text : IsFront by x.sends text
      pub appended : Appends x.sends.held z.sends.held text
      pub taken : z.sends.progress.taken ≡ x.sends.progress.taken
      pub none : z.unknown ≡ 0

    -- what was told where the encoder was joined, if it was to be
    record Joining (by : Bool) (x y : LiveAt) : Type 0 where
      pub text : List ℕ
      pub is_text : IsFront by x.sends text
      pub appended : Appends x.sends.held y.sends.held text
      pub taken : y.sends.progress.taken ≡ x.sends.progress.taken

    joining : (by : Bool) (x y : LiveAt)
        → MakesOnce opens closes remaining contents leaves is_clean saves fails (run_of options) by x y goes
        → Joining by x y
    joining false x y ((same, apply, is), takes, unknown, keeps) = record {
      text = [];
      is_text = inl refl;
      appended = subst (λ (v : At). Appends x.sends.held v.held []) (sym same) (appends_nothing x.sends.held);
      taken = ap (λ (v : At). v.progress.taken) same;
    }
    joining true x y (made, takes, unknown, keeps) =
        let (told, appended) = made_told options.form options.reading.size options.station.now x.sends y.sends
        x.applied y.applied made in
        record {
          text = station_in options.form options.station.now told;
          is_text = (told, refl);
          appended = appended;
          taken = made_taken options.form options.reading.size options.station.now x.sends y.sends x.applied y.applied
              made;
        }

    front : (by : Bool) (x y z : LiveAt) → (by ≡ true → IsIdle x.sends) → x.unknown ≡ 0
        → MakesOnce opens closes remaining contents leaves is_clean saves fails (run_of options) by x y goes
        → SettlesOnce opens closes remaining contents leaves is_clean saves fails (run_of options) y z goes
        → Front by x z
    front false x y z idle none ((same, apply, is), takes, unknown, keeps) (settles, takes_on, stays) =
        let s = settled_told options.form x.sends z.sends y.applied z.applied y.unknown z.unknown (unknown ∙ none)
        (subst (λ (v : At). SettlesLive opens closes remaining contents leaves is_clean saves fails
        (Numbered options.form) v
        z.sends y.applied
        z.applied y.unknown z.unknown goes) same settles) in record {
          text = s.text;
          is_text = s.is_text;
          appended = s.appended;
          taken = s.taken;
          none = s.none;
        }
    front true x y z idle none (made, takes, unknown, keeps) (settles, takes_on, stays) =
        let (told, appended) = made_told options.form options.reading.size options.station.now x.sends y.sends x.applied
        y.applied
        made in
        let still = makes_idle opens closes remaining contents leaves is_clean saves fails options.form
        options.reading.size options.station.now true x.sends y.sends x.applied y.applied made (idle refl) in
        let (same, are, is) = none_settled options.form y.sends z.sends y.applied z.applied y.unknown z.unknown goes
        still settles in
        record {
          text = station_in options.form options.station.now told;
          is_text = (told, refl);
          appended = subst (λ (v : At). Appends x.sends.held v.held (station_in options.form options.station.now told))
              (sym same)
              appended;
          taken = ap (λ (v : At). v.progress.taken) same
              ∙ made_taken options.form options.reading.size options.station.now x.sends y.sends x.applied y.applied
              made;
          none = are ∙ unknown ∙ none;
        }

    -- What one sender told, that took these messages: behind those whose codes it told some are lost; or it took none,
    -- and what waited is unknown.
    pub record Spoke (by : Bool) (all : List (List ℕ)) (x x' : At) (was is : Bool) (unknown' : ℕ) : Type 0 where
      pub front : List ℕ
      pub messages : List (List ℕ)
      pub lost : List (List ℕ)
      pub codes : List Code
      pub lines : List ℕ
      pub is_front : IsFront by x front
      pub are_all : all ≡ messages ++ lost
      pub answers : AreAnswers options.form (x.progress.taken + 1) messages (replied codes) lines
      pub appended : Appends x.held x'.held (front ++ lines)
      pub counted : ((x'.progress.taken ≡ x.progress.taken + (length codes + unknown')) × (length lost ≡ unknown'))
          ⊎ ((by ≡ false) × (codes ≡ []) × (x'.progress.taken ≡ x.progress.taken)
          × (unknown' ≡ length (marks_in x.runs.sender.server)) × (length lost ≡ 0))
      pub applied : is ≡ true → (was ≡ true) × (list_all is_applied codes ≡ true)

    stopped_settling : (by : Bool) (x y x' : LiveAt) (stop : KeptStop) → (by ≡ true → IsIdle x.sends) → 1 ≤ x'.unknown
        → MakesOnce opens closes remaining contents leaves is_clean saves fails (run_of options) by x y goes
        → SettlesOnce opens closes remaining contents leaves is_clean saves fails (run_of options) y x' (stopped stop)
        → Spoke by [] x.sends x'.sends x.applied x'.applied x'.unknown
    stopped_settling false x y x' stop idle many ((same, apply, is), takes, unknown, keeps) (settles, takes_on, stays) =
        let u = unsettled options.form x.sends x'.sends y.applied x'.applied y.unknown x'.unknown stop many
        (subst (λ (v : At). SettlesLive opens closes remaining contents leaves is_clean saves fails
        (Numbered options.form) v
        x'.sends y.applied
        x'.applied y.unknown x'.unknown (stopped stop)) same settles) in record {
          front = [];
          messages = [];
          lost = [];
          codes = [];
          lines = [];
          is_front = inl refl;
          are_all = refl;
          answers = refl;
          appended = u.appended;
          counted = inr (refl, refl, u.taken, u.all, refl);
          applied = λ all_so. (
            sym apply ∙ settled_applied options.form y.sends x'.sends y.applied x'.applied y.unknown x'.unknown (stopped
                stop)
                settles all_so,
            refl,
          );
        }
    stopped_settling true x y x' stop idle many (made, takes, unknown, keeps) (settles, takes_on, stays) =
        let still = makes_idle opens closes remaining contents leaves is_clean saves fails options.form
        options.reading.size options.station.now true x.sends y.sends x.applied y.applied made (idle refl) in
        let (same, are, is) = none_settled options.form y.sends x'.sends y.applied x'.applied y.unknown x'.unknown
        (stopped stop)
        still settles in absurd (goes_not_stopped stop (sym is))

    spoke_on : (by : Bool) (x y x' : LiveAt) (behind : After) (went : Went) → (by ≡ true → IsIdle x.sends)
        → x.unknown ≡ 0 → MakesOnce opens closes remaining contents leaves is_clean saves fails (run_of options) by x y
        goes
        → (runs : RunsOn opens closes remaining contents leaves is_clean saves fails options behind y x' went)
        → Onward went x'.unknown
        → Spoke by
        (of_run_on opens closes remaining contents leaves is_clean saves fails options behind y x' went runs) x.sends
        x'.sends x.applied x'.applied x'.unknown
    spoke_on by x y x' GoesOn went idle none made (inl (z, settles, turns)) onward =
        let f = front by x y z idle none made settles in
        let still = settles_idle opens closes remaining contents leaves is_clean saves fails options.form y.sends
        z.sends y.applied z.applied y.unknown z.unknown goes settles.0 refl in
        let t = told_turns opens closes remaining contents leaves is_clean saves fails options.form
        options.reading.input options.reading.size options.reading.strict z x' went still f.none turns onward in
        let taken = f.taken in record {
          front = f.text;
          messages = t.messages;
          lost = t.lost;
          codes = t.codes;
          lines = t.lines;
          is_front = f.is_text;
          are_all = t.are_all;
          answers = subst (λ n. AreAnswers options.form (n + 1) t.messages (replied t.codes) t.lines) taken t.answers;
          appended = appends_then x.sends.held z.sends.held x'.sends.held f.text t.lines f.appended t.appended;
          counted = inl ((let a = t.counted in omega (arith, a, taken)), t.many);
          applied = λ all_so. (
            made_applied options.form options.reading.size options.station.now by x.sends y.sends x.applied y.applied
                goes made.0 (settled_applied options.form y.sends z.sends y.applied z.applied y.unknown z.unknown goes
                settles.0 (t.applied all_so).0),
            (t.applied all_so).1,
          );
        }
    spoke_on by x y x' GoesOn went idle none made (inr (stop, settles, is)) onward =
        stopped_settling by x y x' stop idle (some_where_stopped stop went x'.unknown is onward) made settles
    spoke_on by x y x' (Ends end) went idle none made (same, is) onward =
        let j = joining by x y made in
        let sends : x'.sends ≡ y.sends = ap (λ (v : LiveAt). v.sends) same in
        let zero_is : x'.unknown ≡ 0 = ap (λ (v : LiveAt). v.unknown) same ∙ made.2 ∙ none in
        record {
          front = j.text;
          messages = [];
          lost = [];
          codes = [];
          lines = [];
          is_front = j.is_text;
          are_all = refl;
          answers = refl;
          appended = subst (λ l. Appends x.sends.held x'.sends.held l) (sym (append-nil j.text))
              (subst (λ (v : At). Appends x.sends.held v.held j.text) (sym sends) j.appended);
          counted = inl (
            (let a = ap (λ (v : At). v.progress.taken) sends ∙ j.taken in omega (arith, a, zero_is)),
            sym zero_is,
          );
          applied = λ all_so. (
            made_applied options.form options.reading.size options.station.now by x.sends y.sends x.applied y.applied
                goes made.0 (sym (ap (λ (v : LiveAt). v.applied) same) ∙ all_so),
            refl,
          );
        }

    pub spoke : (by : Bool) (x x' : LiveAt) (went : Went) → (by ≡ true → IsIdle x.sends) → x.unknown ≡ 0
        → (runs : RunsLive opens closes remaining contents leaves is_clean saves fails options by x x' went)
        → Onward went x'.unknown
        → Spoke by (of_run opens closes remaining contents leaves is_clean saves fails options by x x' went runs)
        x.sends x'.sends x.applied x'.applied x'.unknown
    spoke by x x' went idle none (inl (y, made, on)) onward = spoke_on by x y x' y.behind went idle none made on onward
    spoke by x x' went idle none (inr (stop, (made, takes, unknown, keeps), is)) onward =
        absurd (goes_not_stopped stop (goes_with_none went x'.unknown (unknown ∙ none) onward ∙ is))

    on_unknown : (by : Bool) (x y x' : LiveAt) (behind : After) (went : Went) → (by ≡ true → IsIdle x.sends)
        → x.unknown ≡ 0 → MakesOnce opens closes remaining contents leaves is_clean saves fails (run_of options) by x y
        goes
        → RunsOn opens closes remaining contents leaves is_clean saves fails options behind y x' went → goes ≡ went
        → x'.unknown ≡ 0
    on_unknown by x y x' GoesOn went idle none made (inl (z, settles, turns)) on =
        let f = front by x y z idle none made settles in
        let still = settles_idle opens closes remaining contents leaves is_clean saves fails options.form y.sends
        z.sends y.applied z.applied y.unknown z.unknown goes settles.0 refl in
        turns_unknown opens closes remaining contents leaves is_clean saves fails options.form options.reading.input
        options.reading.size options.reading.strict z x' went still f.none turns on
    on_unknown by x y x' GoesOn went idle none made (inr (stop, settles, is)) on =
        absurd (goes_not_stopped stop (on ∙ is))
    on_unknown by x y x' (Ends end) went idle none made (same, is) on =
        ap (λ (v : LiveAt). v.unknown) same ∙ made.2 ∙ none

    -- a run that goes on leaves none outstanding
    pub spoke_unknown : (by : Bool) (x x' : LiveAt) (went : Went) → (by ≡ true → IsIdle x.sends) → x.unknown ≡ 0
        → RunsLive opens closes remaining contents leaves is_clean saves fails options by x x' went → goes ≡ went
        → x'.unknown ≡ 0
    spoke_unknown by x x' went idle none (inl (y, made, on_so)) on =
        on_unknown by x y x' y.behind went idle none made on_so on
    spoke_unknown by x x' went idle none (inr (stop, made, is)) on = absurd (goes_not_stopped stop (on ∙ is))
