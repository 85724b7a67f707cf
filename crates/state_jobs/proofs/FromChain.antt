-- The run of a server whose messages are all there, step by step.
use Rattle.std.proofs.Common.{arith, ◌≡◌, ◌≢◌, ◌⊎◌, ℕ, zero, suc, ◌+◌, ◌≤◌, ◌<◌, ◌^◌, Bool, true, false, List, [], ◌∷◌}
use Rattle.std.proofs.Common.{◌++◌, codes, length, take, drop, Option, Some, None, Result, Ok, Err, refl, sym, ap}
use Rattle.std.proofs.Common.{subst}
use Rattle.std.proofs.Common.{◌∙◌, inl, inr, append-nil}
use Rattle.std.proofs.lemmas.List.{length-take, length-drop}
use Rattle.uecp_elements.specs.declared.code.Code.{Code}
use Rattle.uecp_text.specs.declared.run_fault.RunFault.{RunFault}
use Rattle.uecp_link.specs.declared.counts.ServerCounts.{ServerCounts}
use Rattle.uecp_link.specs.Server.{ServerState, waiting}
use Rattle.uecp_net.specs.declared.sender.Limits.{Limits}
use Rattle.uecp_net.specs.declared.sender.Outstanding.{Outstanding as Reason}
use Rattle.uecp_net.specs.declared.sender.Settled.{Settled}
use Rattle.uecp_net.specs.Sending.{SenderOver, submitted_all}
use Rattle.uecp_net.specs.declared.saved.batch.KeptOutstanding.TheVariants as kept
use Rattle.uecp_net.specs.Keeping.{KeptServer}
use Rattle.uecp_net.specs.SavedSending.{Ended}
use Rattle.uecp_net.specs.SavedJoining.{Joined, Joins, JoinsKept}
use Rattle.uecp_jobs.specs.Batches.{batch_lines, batch_size}
use Rattle.uecp_jobs.specs.JoiningFirst.{joined_line}
use Rattle.uecp_jobs.specs.ServerRun.{Finishes}
use Rattle.uecp_jobs.specs.Messages.{messages_first, refusal_in}
use Rattle.uecp_text.specs.Input.{texts_of}
use Rattle.kept_jobs.specs.declared.stop.KeptStop.{KeptStop}
use Rattle.kept_jobs.specs.declared.stop.KeptStop.TheVariants.{Run}
use Rattle.kept_jobs.specs.Stops.{Went, Then, TellsKept}
use Rattle.kept_jobs.specs.ServerRun.{Standing, sending, is_due}
use Rattle.kept_jobs.proofs.Public.{goes, stopped, goes_not_stopped}
use Rattle.output_forms.specs.declared.form.Form.TheVariants.{Lines}
use Rattle.line_batches.specs.declared.taking.After.{After}
use Rattle.line_batches.specs.declared.taking.After.TheVariants.{GoesOn, Ends}
use Rattle.sending.specs.declared.account.Account.{Account}
use Rattle.sending.specs.declared.account.Account.TheVariants.{Batches}
use Rattle.sending.specs.declared.options.RunOptions.{RunOptions}
use Rattle.sending.specs.Accounts.{form_of, AreHeld}
use Rattle.sending.specs.Forms.{station_in}
use Rattle.state_jobs.specs.Lists.{Listing, FromList, ended_by}
use Rattle.sending.specs.Station.{SentFor, SendsStation, MakesStation, MakesKept, MakesOne, MakesIf, JoinedTold}
use Rattle.sending.specs.Run.{Live, AnswersTold, RepliesOf, SendsBatch, SendsSome, SettlesLive, Turn, GoesOnFor}
use Rattle.sending.specs.Beginning as begins_of
use Rattle.sending.specs.Run.{MakesOnce, SettlesOnce, RunsTurns, RunsOn, RunsLive, RunsOne, RunsFor, ended_as}
use Rattle.state_jobs.specs.ServerRun as chain
use Rattle.state_jobs.proofs.Steps.{SettledTold, JoiningTold, after_refusal, JoinsOne, JoinsIf, SettlesFirst, SendsTold}
use Rattle.state_jobs.proofs.Steps.{SendsOut, SendsAll, RunsSender, SendsMessages, RunsServer}
use Rattle.state_jobs.proofs.Batching as batching

-- what a run comes to behind its last batch
pub ended_so : (refused : Option RunFault) → ended_as (ended_by refused) ≡ after_refusal refused goes
ended_so None = refl
ended_so (Some fault) = refl

-- of some messages some are taken
none_taken : (size : ℕ) (messages : List (List ℕ)) → 1 ≤ size → take size messages ≡ [] → messages ≡ []
none_taken size [] some none = refl
none_taken zero (message ∷ more) some none = absurd (omega (arith, some))
none_taken (suc n) (message ∷ more) some none = absurd (let no : message ∷ take n more ≡ [] = none in cc)

none_of : (size : ℕ) (messages : List (List ℕ)) → messages ≡ [] → take size messages ≡ []
none_of zero messages none = refl
none_of (suc n) [] none = refl
none_of (suc n) (message ∷ more) none = absurd (let no : message ∷ more ≡ [] = none in cc)

none_dropped : (size : ℕ) (messages : List (List ℕ)) → messages ≡ [] → drop size messages ≡ []
none_dropped zero messages none = none
none_dropped (suc n) [] none = refl
none_dropped (suc n) (message ∷ more) none = absurd (let no : message ∷ more ≡ [] = none in cc)

-- how many are left behind a batch, and that some were
left_fewer : (size : ℕ) (messages : List (List ℕ)) → 1 ≤ size → drop size messages ≢ []
    → length (drop size messages) + 1 ≤ length messages
left_fewer size [] some left = absurd (left (none_dropped size [] refl))
left_fewer zero (message ∷ more) some left = absurd (omega (arith, some))
left_fewer (suc n) (message ∷ more) some left =
    let count = length-drop (suc n) (message ∷ more) in omega (arith, count)

module _ {C I O K : Type 0} (opens : C → Option (I × O) → C → Type 0) (closes : C → I → O → C → Type 0)
    (remaining : I → Option (List ℕ)) (contents : O → Option (List ℕ)) (leaves : K → KeptServer → Type 0)
    (is_clean : K → Type 0) (saves fails : K → KeptServer → K → Type 0) where
  abbrev At : Type 0
  At = Standing (SenderOver C I O) K

  abbrev LiveAt : Type 0
  LiveAt = Live Listing (SenderOver C I O) K

  -- ---- What is told.

  told_settled : (are : Settled → List ℕ → Type 0)
      → ((settled : Settled) (told : List ℕ) → are settled told
      → told ≡ batch_lines settled.codes.items settled.tries)
      → (counts : ServerCounts) (ended : Ended) (held held' : Option (List ℕ)) (went : Went)
      → AnswersTold Batches are counts ended held held' went → SettledTold counts ended held held' went
  told_settled are lines counts (Ok settled) held held' went (told, is_told, tells) =
      subst (λ l. TellsKept l (Ok tt) held held' went) (lines settled told is_told) tells
  told_settled are lines counts (Err (kept.Outstanding reason)) held held' went tells = tells
  told_settled are lines counts (Err kept.StateFailed) held held' went tells = tells

  -- ---- The join.

  none_left : (size n : ℕ) (told : List Code) (left : List (List ℕ)) (s s' : SenderOver C I O)
      → SentFor opens closes remaining contents size [] n told left s s' → left ≡ []
  none_left size zero told left s s' (none, all, same) = all
  none_left size (suc n) told left s s' (before, rest, y, more, tries, sent, some, acknowledges, is_told, is_left) =
      absurd (some (none_left size n before rest s y sent))

  none_sent : (size n : ℕ) (told : List Code) (left : List (List ℕ)) (s s' : SenderOver C I O)
      → SentFor opens closes remaining contents size [] n told left s s' → (told ≡ []) × (s' ≡ s)
  none_sent size zero told left s s' (none, all, same) = (none, same)
  none_sent size (suc n) told left s s' (before, rest, y, more, tries, sent, some, acknowledges, is_told, is_left) =
      absurd (some (none_left size n before rest s y sent))

  joins_so : (size : ℕ) (told : List Code) (s s' : SenderOver C I O) (result : Result (Unit {0}) Reason)
      → MakesStation opens closes remaining contents size [] told s s' result
      → Joins opens closes remaining contents s s' result × (told ≡ [])
  joins_so size told s s' (Ok done) (inl (y, joins, (batches, sent))) =
      let (none, same) = none_sent size batches told [] y s' sent in
      (subst (λ z. Joins opens closes remaining contents s z (Ok tt)) (sym same) joins, none)
  joins_so size told s s' (Err why) (inl (y, joins, (batches, left, z, sent, some, gives))) =
      absurd (some (none_left size batches told left y z sent))
  joins_so size told s s' result (inr (reason, joins, none, is)) =
      (subst (λ r. Joins opens closes remaining contents s s' r) (sym is) joins, none)

  abbrev Makes : (size : ℕ) → (told : List Code) → Joined → (x x' : At) → Type 0
  Makes size told joined x x' =
      MakesOne opens closes remaining contents leaves is_clean saves fails Lines size [] told joined x x'

  joins_kept : (size : ℕ) (told : List Code) (joined : Joined) (x x' : At) → Makes size told joined x x'
      → JoinsKept opens closes remaining contents saves fails x'.progress x.runs x'.runs x.keeper x'.keeper joined
  joins_kept size told (Ok done) x x' one =
      let (makes, saved) = one.makes in ((joins_so size told x.runs x'.runs (Ok tt) makes).0, saved)
  joins_kept size told (Err (kept.Outstanding reason)) x x' one =
      let (makes, same) = one.makes in ((joins_so size told x.runs x'.runs (Err reason) makes).0, same)
  joins_kept size told (Err kept.StateFailed) x x' one =
      let (makes, failed) = one.makes in ((joins_so size told x.runs x'.runs (Ok tt) makes).0, failed)

  joined_told : (size : ℕ) (told : List Code) (joined : Joined) (x x' : At) (went : Went) → Makes size told joined x x'
      → JoinedTold Lines (station_in Lines [] told) joined x.held x'.held went
      → JoiningTold joined x.held x'.held went
  joined_told size told (Ok done) x x' went one tells =
      let none : told ≡ [] = (joins_so size told x.runs x'.runs (Ok tt) one.makes.0).1 in
      let lines : station_in Lines [] told ≡ joined_line true =
      ap (λ l. station_in Lines [] l) none ∙ append-nil (joined_line true ++ []) ∙ append-nil (joined_line true) in
      subst (λ l. TellsKept l (Ok tt) x.held x'.held went) lines tells
  joined_told size told (Err (kept.Outstanding reason)) x x' went one tells = tells
  joined_told size told (Err kept.StateFailed) x x' went one tells = tells

  joins_if : (size : ℕ) (due : Bool) (x x' : At) (applied applied' : Bool) (went : Went)
      → MakesIf opens closes remaining contents leaves is_clean saves fails Lines size [] due x x' applied applied' went
      → JoinsIf opens closes remaining contents leaves is_clean saves fails due x x' went
  joins_if size false x x' applied applied' went (same, apply, is) = (same, is)
  joins_if size true x x' applied applied' went (told, joined, one, tells, apply) = (
    joined,
    record {
      joins = joins_kept size told joined x x' one;
      progress = one.progress;
      outlives = one.outlives;
      settled = one.settled;
      clean = one.clean;
    },
    joined_told size told joined x x' went one tells,
  )

  -- ---- What waits, and a batch.

  settles_so : (x x' : At) (applied applied' : Bool) (unknown unknown' : ℕ) (went : Went)
      → SettlesLive opens closes remaining contents leaves is_clean saves fails Batches x x' applied applied' unknown
      unknown' went
      → SettlesFirst opens closes remaining contents leaves is_clean saves fails x x' went
  settles_so x x' applied applied' unknown unknown' went (inl (idle, same, apply, are, is)) = inl (idle, same, is)
  settles_so x x' applied applied' unknown unknown' went (inr (some, (ended, one, tells, apply, are))) =
      inr (
        some,
        (
          ended,
          one,
          told_settled _ (λ settled told is. is) x'.runs.sender.server.counts ended x.held x'.held went tells,
        ),
      )

  sends_so : (messages : List (List ℕ)) (x x' : At) (applied applied' : Bool) (unknown' : ℕ) (went : Went)
      → SendsBatch opens closes remaining contents leaves is_clean saves fails Batches messages x x' applied applied'
      unknown' went
      → SendsTold opens closes remaining contents leaves is_clean saves fails messages x x' went
  sends_so messages x x' applied applied' unknown' went (ended, one, tells, apply, are) =
      (ended, one, told_settled _ (λ settled told is. is) x'.runs.sender.server.counts ended x.held x'.held went tells)

  -- ---- Turns.

  module _ (size : ℕ) (some_size : 1 ≤ size) where
    abbrev OneTurn : (x x' : LiveAt) → After → Went → Type 0
    OneTurn = Turn (FromList size) opens closes remaining contents leaves is_clean saves fails Batches

    -- however it goes on with what is left, so it went with all
    abbrev OnWith : (x y : LiveAt) → Type 0
    OnWith x y = batching.GoesOn opens closes remaining contents leaves is_clean saves fails size x.takes.left x.sends
        y.takes.left y.sends

    abbrev AllSent : (x x' : LiveAt) → Went → Type 0
    AllSent x x' went =
        SendsAll opens closes remaining contents leaves is_clean saves fails size x.takes.left x.sends x'.sends went

    -- some turns were made
    record Going (turns : ℕ) (x y : LiveAt) : Type 0 where
      pub on : OnWith x y
      pub ends : y.takes.ends ≡ x.takes.ends
      pub count : length y.takes.left + turns ≤ length x.takes.left

    -- a turn that goes on sends the next batch
    turn_sends : (x x' : LiveAt) → OneTurn x x' GoesOn (Ok tt)
        → SendsTold opens closes remaining contents leaves is_clean saves fails (take size x.takes.left) x.sends
        x'.sends (Ok tt) × (x.takes.left ≢ [])
    turn_sends x x' turn = by turn.messages turn.taken turn.sends
      where
        some_left : x'.takes.left ≡ drop size x.takes.left → x'.takes.left ≢ [] → x.takes.left ≢ []
        some_left is some none = some (is ∙ none_dropped size x.takes.left none)

        by : (messages : List (List ℕ)) → FromList size messages GoesOn x.takes x'.takes
            → SendsSome opens closes remaining contents leaves is_clean saves fails Batches messages x.sends x'.sends
            x.applied x'.applied x.unknown x'.unknown (Ok tt)
            → SendsTold opens closes remaining contents leaves is_clean saves fails (take size x.takes.left) x.sends
            x'.sends (Ok tt) × (x.takes.left ≢ [])
        by messages (is, left, (some, ends)) (inl (none, same, apply, are, went)) =
            absurd (some_left left some (none_taken size x.takes.left some_size (sym is ∙ none)))
        by messages (is, left, (some, ends)) (inr (any, sent)) = (
          subst (λ ms. SendsTold opens closes remaining contents leaves is_clean saves fails ms x.sends x'.sends (Ok
              tt)) is
              (sends_so messages x.sends x'.sends x.applied x'.applied x'.unknown (Ok tt) sent),
          some_left left some,
        )

    going : (turns : ℕ) (x y : LiveAt)
        → GoesOnFor (FromList size) opens closes remaining contents leaves is_clean saves fails Batches turns x y
        → Going turns x y
    going zero x y same = subst (λ (z : LiveAt). Going 0 x z) (sym same) (record {
      on = batching.begins opens closes remaining contents leaves is_clean saves fails size x.takes.left x.sends;
      ends = refl;
      count = (let few : length x.takes.left + 0 ≤ length x.takes.left = omega arith in few);
    })
    going (suc n) x z (y, before, turn) =
        let so = going n x y before in
        let (messages_are, left, (some, ends)) = turn.taken in
        let (sent, any) = turn_sends y z turn in
        record {
          on = subst (λ l. batching.GoesOn opens closes remaining contents leaves is_clean saves fails size
              x.takes.left x.sends l z.sends) (sym left)
              (batching.one_more opens closes remaining contents leaves is_clean saves fails size x.takes.left x.sends
              y.takes.left y.sends so.on any z.sends sent);
          ends = ends ∙ so.ends;
          count = (let one = left_fewer size y.takes.left some_size
              (subst (λ l. l ≢ []) left some) in
              let same = ap length left in
              let earlier = so.count in
              omega (arith, one, same, earlier));
        }

    -- the last turn, behind which the run ends
    last_sends : (x y x' : LiveAt) (turns : ℕ) (end : Result (Unit {0}) RunFault) → Going turns x y
        → OneTurn y x' (Ends end) (Ok tt) → AllSent x x' (Ok tt) × (end ≡ x.takes.ends)
    last_sends x y x' turns end so turn = by turn.messages turn.taken turn.sends
      where
        by : (messages : List (List ℕ)) → FromList size messages (Ends end) y.takes x'.takes
            → SendsSome opens closes remaining contents leaves is_clean saves fails Batches messages y.sends x'.sends
            y.applied x'.applied y.unknown x'.unknown (Ok tt) → AllSent x x' (Ok tt) × (end ≡ x.takes.ends)
        by messages (is, left, (none_left, end_is)) (inl (none, same, apply, are, went)) = (
          subst (λ z. SendsAll opens closes remaining contents leaves is_clean saves fails size x.takes.left x.sends z
              (Ok tt)) (sym same)
              (batching.ends opens closes remaining contents leaves is_clean saves fails size x.takes.left x.sends
              y.takes.left y.sends so.on (none_taken size y.takes.left some_size (sym is ∙ none))),
          end_is ∙ so.ends,
        )
        by messages (is, left, (none_left, end_is)) (inr (any, sent)) = (
          so.on x'.sends (Ok tt) 1 (
            (λ none. any (is ∙ none_of size y.takes.left none)),
            inl (
              x'.sends,
              subst (λ ms. SendsTold opens closes remaining contents leaves is_clean saves fails ms y.sends x'.sends (Ok
                  tt)) is
                  (sends_so messages y.sends x'.sends y.applied x'.applied x'.unknown (Ok tt) sent),
              (sym left ∙ none_left, refl, refl),
            ),
          ),
          end_is ∙ so.ends,
        )

    -- the last turn, whose batch could not be sent or told
    stop_sends : (x y x' : LiveAt) (turns : ℕ) (after : After) (stop : KeptStop) → Going turns x y
        → OneTurn y x' after (Err stop) → AllSent x x' (Err stop)
    stop_sends x y x' turns after stop so turn = by turn.messages turn.taken turn.sends
      where
        by : (messages : List (List ℕ)) → FromList size messages after y.takes x'.takes
            → SendsSome opens closes remaining contents leaves is_clean saves fails Batches messages y.sends x'.sends
            y.applied x'.applied y.unknown x'.unknown (Err stop) → AllSent x x' (Err stop)
        by messages (is, left, comes) (inl (none, same, apply, are, went)) =
            absurd (goes_not_stopped stop (sym went))
        by messages (is, left, comes) (inr (any, sent)) =
            batching.stops opens closes remaining contents leaves is_clean saves fails size x.takes.left x.sends
            y.takes.left y.sends so.on (λ none. any (is ∙ none_of size y.takes.left none)) x'.sends stop
            (subst (λ ms. SendsTold opens closes remaining contents leaves is_clean saves fails ms y.sends x'.sends (Err
            stop)) is
            (sends_so messages y.sends x'.sends y.applied x'.applied x'.unknown (Err stop) sent))

    -- so all were sent, up to a stop, and then the run ends so
    abbrev pub Sent : (x x' : LiveAt) → (refused : Option RunFault) → Went → Type 0
    Sent x x' refused went = (sent : Went) × AllSent x x' sent × (went ≡ after_refusal refused sent)

    turns_sent : (x x' : LiveAt) (refused : Option RunFault) (went : Went) → x.takes.ends ≡ ended_by refused
        → length x.takes.left < 2 ^ 59
        → RunsTurns (FromList size) opens closes remaining contents leaves is_clean saves fails Batches x x' went
        → Sent x x' refused went
    turns_sent x x' refused went ends few (n, y, before, inl (inl (end, turn, is))) =
        let (sent, end_is) = last_sends x y x' n end (going n x y before) turn in
        (Ok tt, sent, is ∙ ap ended_as (end_is ∙ ends) ∙ ended_so refused)
    turns_sent x x' refused went ends few (n, y, before, inl (inr (after, stop, turn, is))) =
        (Err stop, stop_sends x y x' n after stop (going n x y before) turn, is)
    turns_sent x x' refused went ends few (n, y, before, inr (all, same, is)) =
        let count = (going n x y before).count in absurd (omega (arith, few, count, all))

  -- ---- A sender.

  module _ (options : RunOptions) (never : options.rejoin ≡ false) (by_batch : options.account ≡ Batches)
      (no_station : options.station.now ≡ []) (some_size : 1 ≤ options.size) where
    abbrev LiveWas : Type 0
    LiveWas = Live Listing ServerState K

    -- what comes behind the join
    abbrev Rest : (messages : List (List ℕ)) → (x x' : At) → Went → Type 0
    Rest messages x x' went =
        Then (SettlesFirst opens closes remaining contents leaves is_clean saves fails)
        (SendsAll opens closes remaining contents leaves is_clean saves fails options.size messages) x x' went

    settled_so : (x x' : LiveAt) (went : Went)
        → SettlesOnce opens closes remaining contents leaves is_clean saves fails options x x' went
        → SettlesFirst opens closes remaining contents leaves is_clean saves fails x.sends x'.sends went
    settled_so x x' went (settles, same, behind) =
        settles_so x.sends x'.sends x.applied x'.applied x.unknown x'.unknown went
        (subst (λ a. SettlesLive opens closes remaining contents leaves is_clean saves fails a x.sends x'.sends
        x.applied
        x'.applied x.unknown x'.unknown went) by_batch settles)

    on_sent : (x x' : LiveAt) (refused : Option RunFault) (went : Went) → x.takes.ends ≡ ended_by refused
        → length x.takes.left < 2 ^ 59 → (behind : After) → behind ≡ GoesOn
        → RunsOn FromList opens closes remaining contents leaves is_clean saves fails options behind x x' went
        → (sent : Went) × Rest x.takes.left x.sends x'.sends sent × (went ≡ after_refusal refused sent)
    on_sent x x' refused went ends few GoesOn on (inl (y, settles, turns)) =
        let same : y.takes ≡ x.takes = settles.1 in
        let so = turns_sent options.size some_size y x' refused went
        (ap (λ (t : Listing). t.ends) same ∙ ends)
        (subst (λ (t : Listing). length t.left < 2 ^ 59) (sym same) few)
        (subst (λ a. RunsTurns (FromList options.size) opens closes remaining contents leaves is_clean saves fails a y
        x'
        went) by_batch turns) in (
          so.0,
          inl (
            y.sends,
            settled_so x y (Ok tt) settles,
            subst (λ (t : Listing). SendsAll opens closes remaining contents leaves is_clean saves fails options.size
                t.left y.sends x'.sends so.0) same so.1,
          ),
          so.2,
        )
    on_sent x x' refused went ends few GoesOn on (inr (stop, settles, is)) =
        (Err stop, inr (stop, settled_so x x' (Err stop) settles, refl), is)
    on_sent x x' refused went ends few (Ends end) on runs =
        absurd (let no : Ends end ≡ GoesOn = on in cc)

    made_so : (due : Bool) (x x' : LiveAt) (went : Went)
        → MakesOnce opens closes remaining contents leaves is_clean saves fails options due x x' went
        → JoinsIf opens closes remaining contents leaves is_clean saves fails due x.sends x'.sends went
    made_so due x x' went (makes, same, unknown, behind) =
        joins_if options.size due x.sends x'.sends x.applied x'.applied went
        (subst (λ l. MakesIf opens closes remaining contents leaves is_clean saves fails Lines options.size l due
        x.sends
        x'.sends x.applied x'.applied went) no_station
        (subst (λ a. MakesIf opens closes remaining contents leaves is_clean saves fails (form_of a) options.size
        options.station.now due x.sends x'.sends x.applied x'.applied went) by_batch makes))

    live_sent : (due : Bool) (x x' : LiveAt) (refused : Option RunFault) (went : Went) → x.behind ≡ GoesOn
        → x.takes.ends ≡ ended_by refused → length x.takes.left < 2 ^ 59
        → RunsLive FromList opens closes remaining contents leaves is_clean saves fails options due x x' went
        → (sent : Went)
        × RunsSender opens closes remaining contents leaves is_clean saves fails due options.size x.takes.left x.sends
        x'.sends sent
        × (went ≡ after_refusal refused sent)
    live_sent due x x' refused went behind ends few (inl (y, makes, on)) =
        let same : y.takes ≡ x.takes = makes.1 in
        let so = on_sent y x' refused went (ap (λ (t : Listing). t.ends) same ∙ ends)
        (subst (λ (t : Listing). length t.left < 2 ^ 59) (sym same) few) y.behind (makes.3 ∙ behind) on in (
          so.0,
          inl (
            y.sends,
            made_so due x y (Ok tt) makes,
            subst (λ (t : Listing). Rest t.left y.sends x'.sends so.0) same so.1,
          ),
          so.2,
        )
    live_sent due x x' refused went behind ends few (inr (stop, makes, is)) =
        (Err stop, inr (stop, made_so due x x' (Err stop) makes, refl), is)

    -- ---- A whole run.

    -- one sender, new, sent these messages, up to a stop, and this is left of that
    abbrev OneSent : (due : Bool) (c c' : C) (x : Standing ServerState K) (messages : List (List ℕ))
        → (refused : Option RunFault) → Went → (x' : Standing ServerState K) → Type 0
    OneSent due c c' x messages refused went x' =
        (loan : ℕ) × (z : At) × (sent : Went)
        × RunsSender opens closes remaining contents leaves is_clean saves fails due options.size messages
        (sending opens closes remaining contents leaves is_clean saves fails c loan options.limits x) z sent
        × (went ≡ after_refusal refused sent) × Finishes closes c' z.runs × (x'.keeper ≡ z.keeper) × (x'.held ≡ z.held)

    one_sent : (due : Bool) (c c' : C) (x x' : LiveWas) (refused : Option RunFault) (went : Went) → x.behind ≡ GoesOn
        → x.takes.ends ≡ ended_by refused → length x.takes.left < 2 ^ 59
        → RunsOne FromList opens closes remaining contents leaves is_clean saves fails options due c c' x x' went
        → OneSent due c c' x.sends x.takes.left refused went x'.sends
    one_sent due c c' x x' refused went behind ends few (loan, z, runs, finishes, is) =
        let so = live_sent due _ z refused went behind ends few runs in (
          loan,
          z.sends,
          so.0,
          so.1,
          so.2,
          finishes,
          ap (λ (w : LiveWas). w.sends.keeper) is,
          ap (λ (w : LiveWas). w.sends.held) is,
        )

    for_sent : (due : Bool) (again : ℕ) (c c' : C) (x x' : LiveWas) (refused : Option RunFault) (went : Went)
        → x.behind ≡ GoesOn → x.takes.ends ≡ ended_by refused → length x.takes.left < 2 ^ 59
        → RunsFor FromList opens closes remaining contents leaves is_clean saves fails options due again c c' x x' went
        → OneSent due c c' x.sends x.takes.left refused went x'.sends
    for_sent due zero c c' x x' refused went behind ends few runs =
        one_sent due c c' x x' refused went behind ends few runs
    for_sent due (suc n) c c' x x' refused went behind ends few (d, y, stopped_so, before, rejoin, some, more) =
        absurd (let no : true ≡ false = sym rejoin ∙ never in cc)

    list_sent : (messages : List (List ℕ)) (refused : Option RunFault) (c c' : C) (x : Standing ServerState K) (k' : K)
        (held' : Option (List ℕ)) (went : Went) → length messages < 2 ^ 59
        → chain.SendsList opens closes remaining contents leaves is_clean saves fails options messages refused c c' x k'
        held' went
        → (sent : Went)
        × SendsMessages opens closes remaining contents leaves is_clean saves fails options.join options.size
        options.limits messages c c' x k' held' sent
        × (went ≡ after_refusal refused sent)
    list_sent messages refused c c' x k' held' went few
        (taken, applied, inl (y, again, z, begins, runs, last, keeper, held, takes, apply)) =
        let (loan, w, sent, ran, is, finishes, keeper_is, held_is) =
        for_sent (is_due options.join x.progress) again c c' _ z refused went refl refl few runs in (
          sent,
          inl (
            y,
            loan,
            w,
            subst (λ a. Then (begins_of.TellsTaken (form_of a)) (begins_of.BeginsAnewIf leaves is_clean saves fails
                (form_of a)
                (is_due options.join x.progress)) x y (Ok tt)) by_batch begins,
            ran,
            finishes,
            keeper ∙ keeper_is,
            held ∙ held_is,
          ),
          is,
        )
    list_sent messages refused c c' x k' held' went few
        (taken, applied, inr (y, stop, begins, is, connect, keeper, held, takes, apply)) = (
          Err stop,
          inr (
            y,
            stop,
            subst (λ a. Then (begins_of.TellsTaken (form_of a)) (begins_of.BeginsAnewIf leaves is_clean saves fails
                (form_of a)
                (is_due options.join x.progress)) x y (Err stop)) by_batch begins,
            refl,
            connect,
            keeper,
            held,
          ),
          is,
        )

  some_in_batch : (window : ℕ) → 1 ≤ batch_size window
  some_in_batch window = omega arith

  -- a run of the one chain is one of these steps
  pub server_so : (window : ℕ) (join : Bool) (limits : Limits) (unread unread' : Option (List ℕ)) (c c' : C)
      (x : Standing ServerState K) (k' : K) (held' : Option (List ℕ)) (went : Went)
      → chain.RunsServer opens closes remaining contents leaves is_clean saves fails window join limits unread unread' c
      c' x k' held' went
      → RunsServer opens closes remaining contents leaves is_clean saves fails window join limits unread unread' c c' x
      k' held' went
  server_so window join limits unread unread' c c' x k' held' went (inl (input, options, is_input, is, few, sends)) =
      let some = subst (λ n. 1 ≤ n) (sym is.is_size) (some_in_batch window) in
      let (sent, all, ends) = list_sent options is.never_rejoins is.tells_batches is.has_no_station some
      (messages_first (texts_of input)) (refusal_in (texts_of input)) c c' x k' held' went few sends in
      inl (
        input,
        sent,
        is_input,
        subst (λ l. SendsMessages opens closes remaining contents leaves is_clean saves fails join (batch_size window) l
            (messages_first (texts_of input)) c c' x k' held' sent) is.limits_are
            (subst (λ n. SendsMessages opens closes remaining contents leaves is_clean saves fails join n options.limits
            (messages_first (texts_of input)) c c' x k' held' sent) is.is_size
            (subst (λ j. SendsMessages opens closes remaining contents leaves is_clean saves fails j options.size
            options.limits (messages_first (texts_of input)) c c' x k' held' sent) is.joins all)),
        ends,
      )
  server_so window join limits unread unread' c c' x k' held' went (inr none) = inr none
