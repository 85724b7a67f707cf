-- What a server's run wrote that came to the end of its input, or to a line that is refused.
use Rattle.std.proofs.Common.{arith, ◌≡◌, ℕ, zero, suc, ◌+◌, Bool, true, false, ◌||◌, List, [], ◌∷◌, ◌++◌, length, take}
use Rattle.std.proofs.Common.{drop, Option, None, Some, Ok, Err, refl, sym, ap, subst, ◌∙◌, inl, inr, ◌⊎◌, append_assoc}
use Rattle.std.specs.Io.KnownBytes.{Appends}
use Rattle.std.proofs.lemmas.List.{length-take, length-drop}
use Rattle.uecp_elements.specs.declared.code.Code.{Code}
use Rattle.uecp_text.specs.declared.run_fault.RunFault.{RunFault}
use Rattle.uecp_text.specs.declared.run_fault.RunFault.TheVariants as run
use Rattle.uecp_text.specs.Input.{texts_of}
use Rattle.uecp_text.specs.Run.{IsInput}
use Rattle.uecp_text.proofs.Public.{appends_nothing, appends_then}
use Rattle.uecp_link.specs.declared.counts.ServerCounts.{ServerCounts}
use Rattle.uecp_link.specs.Server.{ServerState, waiting}
use Rattle.uecp_net.specs.declared.sender.Limits.{Limits}
use Rattle.uecp_net.specs.declared.sender.Settled.{Settled}
use Rattle.uecp_net.specs.Sending.{SenderOver, submitted_all}
use Rattle.uecp_net.specs.declared.saved.keep.Progress.{Progress}
use Rattle.uecp_net.specs.declared.saved.batch.KeptOutstanding.TheVariants as kept
use Rattle.uecp_net.specs.Keeping.{KeptServer, kept_of}
use Rattle.uecp_net.specs.SavedSending.{Ended, SettlesKept, SendsKept}
use Rattle.uecp_net.specs.SavedJoining.{Joined, Joins}
use Rattle.uecp_net.proofs.Public.{begins_anew_lem}
use Rattle.uecp_jobs.specs.Batches.{batch_lines, batch_size, fault_of, lines_of_batches}
use Rattle.uecp_jobs.specs.JoiningFirst.{joined_line, not_joined_line}
use Rattle.uecp_jobs.specs.Messages.{messages_first, refusal_in}
use Rattle.uecp_jobs.proofs.Public.{all_wait}
use Rattle.kept_jobs.specs.declared.stop.KeptStop.{KeptStop}
use Rattle.kept_jobs.specs.declared.stop.KeptStop.TheVariants.{Run, StateFailed}
use Rattle.kept_jobs.specs.Stops.{Went, Then, TellsKept, stop_for, stop_status}
use Rattle.kept_jobs.specs.ServerRun.{Standing, SettlesOne, SendsOne, sending, is_due, taken_line, given_up_line}
use Rattle.kept_jobs.proofs.Public.{goes, stopped, goes_not_stopped, same_status, told_stops}
use Rattle.state_jobs.specs.ServerTold.{IsToldFirst, messages_in, HasTold}
use Rattle.state_jobs.proofs.Steps.{SettledTold, JoiningTold, TellsTaken, BeginsAnew, BeginsAnewIf, JoinsOne, JoinsIf}
use Rattle.state_jobs.proofs.Steps.{SettlesFirst, SendsOut, RunsSender, SendsMessages, RunsServer, after_refusal}
use Rattle.state_jobs.proofs.Begun.{has_begun}
use Rattle.state_jobs.proofs.ServerEnding.{sent_idle, messages_status, unread_status}

-- what is told of a run that goes on is told whole
told_all : (lines : List ℕ) (held held' : Option (List ℕ)) → TellsKept lines goes held held' goes
    → Appends held held' lines
told_all lines held held' (inl (appends, is)) = appends
told_all lines held held' (inr (begins, inl is)) = absurd (goes_not_stopped (Run run.Writing) is)
told_all lines held held' (inr (begins, inr is)) = absurd (goes_not_stopped (Run run.OutOfMemory) is)

no_codes : (told : List Code) (tries : ℕ) → length told ≡ 0 → batch_lines told tries ≡ []
no_codes [] tries none = refl
no_codes (code ∷ told) tries none = absurd (omega (arith, none))

module _ {C I O K : Type 0} (opens : C → Option (I × O) → C → Type 0) (closes : C → I → O → C → Type 0)
    (remaining : I → Option (List ℕ)) (contents : O → Option (List ℕ)) (leaves : K → KeptServer → Type 0)
    (is_clean : K → Type 0) (saves fails : K → KeptServer → K → Type 0) where
  abbrev At : Type 0
  At = Standing (SenderOver C I O) K

  abbrev Was : Type 0
  Was = Standing ServerState K

  none_waiting : (s : ServerState) → s.held ≡ [] → length (waiting s) ≡ 0
  none_waiting s idle = ap (λ hs. length (waiting (record s { held = hs }))) idle

  -- ---- Batches.

  -- messages that are acknowledged, and their lines
  record Told (messages : ℕ) (held held' : Option (List ℕ)) : Type 0 where
    pub codes : List Code
    pub tries : ℕ
    pub number : length codes ≡ messages
    pub appended : Appends held held' (batch_lines codes tries)

  sent_number : (batch : List (List ℕ)) (settled : Settled) (x x' : At) → x.runs.sender.server.held ≡ []
      → SendsKept opens closes remaining contents saves fails x'.progress (submitted_all x.runs batch) x'.runs x.keeper
      x'.keeper (Ok settled) → length settled.codes.items ≡ length batch
  sent_number batch settled x x' idle (inl (between, saved, (acknowledges, again))) =
      let number = acknowledges.all in
      let wait = all_wait x.runs batch in
      let none = none_waiting x.runs.sender.server idle in
      omega (arith, number, wait, none)
  sent_number batch settled x x' idle (inr (is, same, failed)) =
      absurd (let no : Ok settled ≡ Err kept.StateFailed = is in cc)

  sent_told : (batch : List (List ℕ)) (ended : Ended) (x x' : At) → x.runs.sender.server.held ≡ []
      → SendsOne opens closes remaining contents leaves is_clean saves fails batch ended x x'
      → SettledTold x'.runs.sender.server.counts ended x.held x'.held goes → Told (length batch) x.held x'.held
  sent_told batch (Ok settled) x x' idle one tells = record {
    codes = settled.codes.items;
    tries = settled.tries;
    number = sent_number batch settled x x' idle one.sends;
    appended = told_all _ x.held x'.held tells;
  }
  sent_told batch (Err (kept.Outstanding reason)) x x' idle one tells =
      absurd (told_stops _ (stop_for x'.runs.sender.server.counts reason) x.held x'.held goes tells refl)
  sent_told batch (Err kept.StateFailed) x x' idle one (same, is) = absurd (goes_not_stopped StateFailed is)

  settled_told : (ended : Ended) (x x' : At)
      → SettlesOne opens closes remaining contents leaves is_clean saves fails ended x x'
      → SettledTold x'.runs.sender.server.counts ended x.held x'.held goes
      → Told (length (waiting x.runs.sender.server)) x.held x'.held × (x'.runs.sender.server.held ≡ [])
  settled_told (Ok settled) x x' one tells = (
    record {
      codes = settled.codes.items;
      tries = settled.tries;
      number = one.settles.0.all;
      appended = told_all _ x.held x'.held tells;
    },
    ap (λ s. s.held) one.settles.0.freed,
  )
  settled_told (Err (kept.Outstanding reason)) x x' one tells =
      absurd (told_stops _ (stop_for x'.runs.sender.server.counts reason) x.held x'.held goes tells refl)
  settled_told (Err kept.StateFailed) x x' one (same, is) = absurd (goes_not_stopped StateFailed is)

  settling_told : (x x' : At) → SettlesFirst opens closes remaining contents leaves is_clean saves fails x x' goes
      → Told (length (waiting x.runs.sender.server)) x.held x'.held × (x'.runs.sender.server.held ≡ [])
  settling_told x x' (inl (idle, same, is)) = (
    record {
      codes = [];
      tries = 0;
      number = sym (none_waiting x.runs.sender.server idle);
      appended = subst (λ (y : At). Appends x.held y.held []) (sym same) (appends_nothing x.held);
    },
    subst (λ (y : At). y.runs.sender.server.held ≡ []) (sym same) idle,
  )
  settling_told x x' (inr (some, (ended, one, tells))) = settled_told ended x x' one tells

  batches_told : (size n : ℕ) (messages : List (List ℕ)) (x x' : At) → x.runs.sender.server.held ≡ []
      → SendsOut opens closes remaining contents leaves is_clean saves fails size n messages x x' goes
      → (batches : List (List Code × ℕ)) × (messages_in batches ≡ length messages)
      × Appends x.held x'.held (lines_of_batches batches)
  batches_told size zero messages x x' idle (none, same, is) = (
    [],
    sym (ap length none),
    subst (λ (y : At). Appends x.held y.held []) (sym same) (appends_nothing x.held),
  )
  batches_told size (suc n) messages x x' idle (some, inl (y, (ended, one, tells), rest)) =
      let told = sent_told (take size messages) ended x y idle one tells in
      let (batches, number, appended) = batches_told size n (drop size messages) y x'
      (sent_idle opens closes remaining contents leaves is_clean saves fails (take size messages) ended x y x.held
      y.held one tells) rest in
      let front = length-take size messages in
      let back = length-drop size messages in
      let here = told.number in (
        (told.codes, told.tries) ∷ batches,
        omega (arith, front, back, here, number),
        appends_then x.held y.held x'.held (batch_lines told.codes told.tries) (lines_of_batches batches) told.appended
            appended,
      )
  batches_told size (suc n) messages x x' idle (some, inr (stop, first, is)) = absurd (goes_not_stopped stop is)

  -- ---- The join.

  joins_idle : (s s' : SenderOver C I O) → Joins opens closes remaining contents s s' (Ok tt)
      → s.sender.server.held ≡ [] → s'.sender.server.held ≡ []
  joins_idle s s' joins idle =
      let p : Progress = record { taken = 0; joined = false } in
      let done : Joined = Ok tt in
      elim (begins_anew_lem opens closes remaining contents p p s s' done (kept_of p s'.sender.server) refl idle
      (λ has. joins) (inr (refl, tt))) [
        | inl was ↦ was.1
        | inr new ↦ new.1
      ]

  joined_told : (x x' : At) → x.runs.sender.server.held ≡ []
      → JoinsIf opens closes remaining contents leaves is_clean saves fails true x x' goes
      → Appends x.held x'.held (joined_line true) × (x'.runs.sender.server.held ≡ [])
  joined_told x x' idle (joined, one, tells) = by joined one tells
    where
      by : (joined : Joined) → JoinsOne opens closes remaining contents leaves is_clean saves fails joined x x'
          → JoiningTold joined x.held x'.held goes
          → Appends x.held x'.held (joined_line true) × (x'.runs.sender.server.held ≡ [])
      by (Ok done) one tells =
          (told_all _ x.held x'.held tells, joins_idle x.runs x'.runs one.joins.0 idle)
      by (Err (kept.Outstanding reason)) one tells =
          absurd (told_stops not_joined_line (Run (fault_of reason)) x.held x'.held goes tells refl)
      by (Err kept.StateFailed) one (same, is) = absurd (goes_not_stopped StateFailed is)

  -- ---- A sender.

  -- what a sender wrote that was given a server so
  abbrev FrontOf : (due : Bool) → (x : At) → (front : List ℕ) → Type 0
  FrontOf false x front = (told : List Code) × (tries : ℕ) × (length told ≡ length (waiting x.runs.sender.server))
      × (front ≡ batch_lines told tries)
  FrontOf true x front = front ≡ joined_line true

  record Spoke (due : Bool) (messages : ℕ) (x x' : At) : Type 0 where
    pub front : List ℕ
    pub batches : List (List Code × ℕ)
    pub is_front : FrontOf due x front
    pub number : messages_in batches ≡ messages
    pub appended : Appends x.held x'.held (front ++ lines_of_batches batches)

  not_due : (x y : At) → JoinsIf opens closes remaining contents leaves is_clean saves fails false x y goes → y ≡ x
  not_due x y (same, is) = same

  spoke : (due : Bool) (size : ℕ) (messages : List (List ℕ)) (x x' : At)
      → (due ≡ true → x.runs.sender.server.held ≡ [])
      → RunsSender opens closes remaining contents leaves is_clean saves fails due size messages x x' goes
      → Spoke due (length messages) x x'
  spoke false size messages x x' idle (inl (y, joins, inl (z, settles, (n, sends)))) =
      let same = not_due x y joins in
      let (told, z_idle) = settling_told y z settles in
      let (batches, number, appended) = batches_told size n messages z x' z_idle sends in
      record {
        front = batch_lines told.codes told.tries;
        batches = batches;
        is_front = (
          told.codes,
          told.tries,
          told.number ∙ ap (λ (v : At). length (waiting v.runs.sender.server)) same,
          refl,
        );
        number = number;
        appended = subst (λ (v : At). Appends v.held x'.held (batch_lines told.codes told.tries
            ++ lines_of_batches batches)) same
            (appends_then y.held z.held x'.held (batch_lines told.codes told.tries) (lines_of_batches batches)
            told.appended appended);
      }
  spoke true size messages x x' idle (inl (y, joins, inl (z, settles, (n, sends)))) =
      let (line, y_idle) = joined_told x y (idle refl) joins in
      let (told, z_idle) = settling_told y z settles in
      let (batches, number, appended) = batches_told size n messages z x' z_idle sends in
      let none : batch_lines told.codes told.tries ≡ [] =
      no_codes told.codes told.tries (told.number ∙ none_waiting y.runs.sender.server y_idle) in
      record {
        front = joined_line true;
        batches = batches;
        is_front = refl;
        number = number;
        appended = appends_then x.held y.held x'.held (joined_line true) (lines_of_batches batches) line
            (appends_then y.held z.held x'.held [] (lines_of_batches batches)
            (subst (λ l. Appends y.held z.held l) none told.appended) appended);
      }
  spoke due size messages x x' idle (inl (y, joins, inr (stop, settles, is))) = absurd (goes_not_stopped stop is)
  spoke due size messages x x' idle (inr (stop, joins, is)) = absurd (goes_not_stopped stop is)

  -- ---- The beginning.

  abbrev begun_lines : (due : Bool) → Was → List ℕ
  begun_lines false x = taken_line x.progress.taken (length (waiting x.runs))
  begun_lines true x =
      taken_line x.progress.taken (length (waiting x.runs)) ++ given_up_line (length (waiting x.runs))

  anew_told : (x y : Was) → BeginsAnew leaves is_clean saves fails x y goes
      → Appends x.held y.held (given_up_line (length (waiting x.runs)))
  anew_told x y anew_so = by anew_so.saved
    where
      by : (saves x.keeper (kept_of y.progress y.runs) y.keeper
          × TellsKept (given_up_line (length (waiting x.runs))) (Ok tt) x.held y.held goes)
          ⊎ (fails x.keeper (kept_of y.progress y.runs) y.keeper × (y.held ≡ x.held)
          × (goes ≡ stopped StateFailed)) → Appends x.held y.held (given_up_line (length (waiting x.runs)))
      by (inl (saved, tells)) = told_all _ x.held y.held tells
      by (inr (failed, same, is)) = absurd (goes_not_stopped StateFailed is)

  begun_told : (due : Bool) (x y : Was)
      → Then TellsTaken (BeginsAnewIf leaves is_clean saves fails due) x y goes
      → Appends x.held y.held (begun_lines due x)
  begun_told false x y (inl (w, (same, tells), (is_y, is))) =
      subst (λ (v : Was). Appends x.held v.held (begun_lines false x)) (sym is_y) (told_all _ x.held w.held tells)
  begun_told true x y (inl (w, (same, tells), anew_so)) =
      appends_then x.held w.held y.held (taken_line x.progress.taken (length (waiting x.runs)))
      (given_up_line (length (waiting x.runs))) (told_all _ x.held w.held tells)
      (subst (λ (v : Was). Appends w.held y.held (given_up_line (length (waiting v.runs)))) same
      (anew_told w y anew_so))
  begun_told due x y (inr (stop, told, is)) = absurd (goes_not_stopped stop is)

  -- ---- A whole run.

  record Wrote (join : Bool) (messages : ℕ) (x : Was) (held' : Option (List ℕ)) : Type 0 where
    pub first : List ℕ
    pub batches : List (List Code × ℕ)
    pub is_first : IsToldFirst (is_due join x.progress) x.progress x.runs first
    pub number : messages_in batches ≡ messages
    pub appended : Appends x.held held' (first ++ lines_of_batches batches)

  wrote_so : (join : Bool) (size : ℕ) (limits : Limits) (messages : List (List ℕ)) (c c' : C) (x : Was) (k' : K)
      (held' : Option (List ℕ))
      → SendsMessages opens closes remaining contents leaves is_clean saves fails join size limits messages c c' x k'
      held' goes → Wrote join (length messages) x held'
  wrote_so join size limits messages c c' x k' held' (inr (y, stop, begins, is, connect, keeper, held)) =
      absurd (goes_not_stopped stop is)
  wrote_so join size limits messages c c' x k' held' (inl (y, loan, z, begins, ran, finishes, keeper, held)) =
      by (is_due join x.progress) refl begins ran
    where
      whole : (a b : List ℕ) (batches : List (List Code × ℕ)) → Appends x.held y.held a
          → Appends y.held z.held (b ++ lines_of_batches batches)
          → Appends x.held held' ((a ++ b) ++ lines_of_batches batches)
      whole a b batches one two =
          subst (λ h. Appends x.held h ((a ++ b) ++ lines_of_batches batches)) (sym held)
          (subst (λ l. Appends x.held z.held l) (sym (append_assoc a b (lines_of_batches batches)))
          (appends_then x.held y.held z.held a (b ++ lines_of_batches batches) one two))

      by : (due : Bool) → is_due join x.progress ≡ due
          → Then TellsTaken (BeginsAnewIf leaves is_clean saves fails due) x y goes
          → RunsSender opens closes remaining contents leaves is_clean saves fails due size messages
          (sending opens closes remaining contents leaves is_clean saves fails c loan limits y) z goes
          → Wrote join (length messages) x held'
      by false is_so begins ran =
          let has = has_begun leaves is_clean saves fails false x y begins in
          let s = spoke false size messages _ z (λ never. absurd (let no : false ≡ true = never in cc)) ran in
          let (told, tries, number, is) = s.is_front in
          let line = taken_line x.progress.taken (length (waiting x.runs)) in
          record {
            first = line ++ s.front;
            batches = s.batches;
            is_first = subst (λ d. IsToldFirst d x.progress x.runs (line ++ s.front)) (sym is_so)
                (told, tries, number ∙ ap (λ r. length (waiting r)) has.0, ap (λ l. line ++ l) is);
            number = s.number;
            appended = whole line s.front s.batches (begun_told false x y begins) s.appended;
          }
      by true is_so begins ran =
          let has = has_begun leaves is_clean saves fails true x y begins in
          let s = spoke true size messages _ z (λ all_so. ap (λ (r : ServerState). r.held) has.0) ran in
          let lines = taken_line x.progress.taken (length (waiting x.runs))
          ++ given_up_line (length (waiting x.runs)) in
          record {
            first = lines ++ s.front;
            batches = s.batches;
            is_first = subst (λ d. IsToldFirst d x.progress x.runs (lines ++ s.front)) (sym is_so)
                (ap (λ l. lines ++ l) s.is_front);
            number = s.number;
            appended = whole lines s.front s.batches (begun_told true x y begins) s.appended;
          }

  told_in : (join : Bool) (unread unread' : Option (List ℕ)) (x : Was) (held' : Option (List ℕ)) (input : List ℕ)
      → IsInput unread unread' input → Wrote join (length (messages_first (texts_of input))) x held'
      → HasTold join unread unread' x.progress x.runs x.held held'
  told_in join unread unread' x held' input is_input w =
      (input, w.first, w.batches, is_input, w.is_first, w.number, w.appended)

  -- a run that was done
  pub done_told : (window : ℕ) (join : Bool) (limits : Limits) (unread unread' : Option (List ℕ)) (c c' : C) (x : Was)
      (k' : K) (held' : Option (List ℕ))
      → RunsServer opens closes remaining contents leaves is_clean saves fails window join limits unread unread' c c' x
      k' held' goes → HasTold join unread unread' x.progress x.runs x.held held'
  done_told window join limits unread unread' c c' x k' held' (inl (input, sent, is_input, sends, is)) =
      by sent (refusal_in (texts_of input)) sends is
    where
      by : (sent : Went) (refusal : Option RunFault)
          → SendsMessages opens closes remaining contents leaves is_clean saves fails join (batch_size window) limits
          (messages_first (texts_of input)) c c' x k' held' sent → goes ≡ after_refusal refusal sent
          → HasTold join unread unread' x.progress x.runs x.held held'
      by (Ok done) refusal sends is =
          told_in join unread unread' x held' input is_input (wrote_so join (batch_size window) limits
          (messages_first (texts_of input)) c c' x k' held' sends)
      by (Err stop) refusal sends is = absurd (goes_not_stopped stop is)
  done_told window join limits unread unread' c c' x k' held' (inr (fault, why, is, connect, keeper, held)) =
      absurd (goes_not_stopped (Run fault) is)

  not_one : (stop : KeptStop) → stop_status stop ≡ 1 → stop_status stop ≡ 3 → ⊥
  not_one stop one three = absurd (let no : 1 ≡ 3 = sym one ∙ three in cc)

  -- one that stopped at a line that is refused
  pub refused_told : (window : ℕ) (join : Bool) (limits : Limits) (unread unread' : Option (List ℕ)) (c c' : C)
      (x : Was) (k' : K) (held' : Option (List ℕ)) (stop : KeptStop)
      → RunsServer opens closes remaining contents leaves is_clean saves fails window join limits unread unread' c c' x
      k' held' (stopped stop) → stop_status stop ≡ 1 → HasTold join unread unread' x.progress x.runs x.held held'
  refused_told window join limits unread unread' c c' x k' held' stop (inl (input, sent, is_input, sends, is)) one =
      by sent (refusal_in (texts_of input)) sends is
    where
      by : (sent : Went) (refusal : Option RunFault)
          → SendsMessages opens closes remaining contents leaves is_clean saves fails join (batch_size window) limits
          (messages_first (texts_of input)) c c' x k' held' sent → stopped stop ≡ after_refusal refusal sent
          → HasTold join unread unread' x.progress x.runs x.held held'
      by (Ok done) refusal sends is =
          told_in join unread unread' x held' input is_input (wrote_so join (batch_size window) limits
          (messages_first (texts_of input)) c c' x k' held' sends)
      by (Err why) refusal sends is =
          absurd (not_one stop one (same_status stop why
          (messages_status opens closes remaining contents leaves is_clean saves fails join (batch_size window) limits
          (messages_first (texts_of input)) c c' x k' held' why sends).0 is))
  refused_told window join limits unread unread' c c' x k' held' stop
      (inr (fault, why, is, connect, keeper, held)) one =
      absurd (not_one stop one (same_status stop (Run fault)
      (unread_status opens closes remaining contents leaves is_clean saves fails unread unread' fault why) is))
