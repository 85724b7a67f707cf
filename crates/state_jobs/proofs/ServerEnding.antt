-- How a server's run ends: its status, and what is kept where all was acknowledged.
use Rattle.std.proofs.Common.{arith, ◌≡◌, ◌⊎◌, ℕ, zero, suc, ◌+◌, Bool, true, false, ◌||◌, not, List, [], ◌∷◌, length}
use Rattle.std.proofs.Common.{if◌then◌else◌, codes, take, drop, Option, Some, None, Result, Ok, Err, refl, sym, ap}
use Rattle.std.proofs.Common.{subst, ◌∙◌, inl, inr}
use Rattle.std.proofs.lemmas.List.{length-take, length-drop}
use Rattle.uecp_text.specs.declared.text_fault.TextFault.{TextFault}
use Rattle.uecp_text.specs.declared.run_fault.RunFault.{RunFault}
use Rattle.uecp_text.specs.declared.run_fault.RunFault.TheVariants as run
use Rattle.uecp_text.specs.Faults.{status_of, error_lines}
use Rattle.uecp_text.specs.Input.{texts_of}
use Rattle.uecp_text.specs.Run.{IsInput, IsUnread, StopsReading}
use Rattle.uecp_link.specs.declared.counts.ServerCounts.{ServerCounts}
use Rattle.uecp_link.specs.Server.{ServerState, waiting}
use Rattle.uecp_net.specs.declared.sender.Limits.{Limits}
use Rattle.uecp_net.specs.declared.sender.Outstanding.{Outstanding}
use Rattle.uecp_net.specs.declared.sender.Outstanding.TheVariants.{TriesSpent, ConnectionFailed}
use Rattle.uecp_net.specs.Sending.{SenderOver, submitted_all}
use Rattle.uecp_jobs.specs.Batches.{batch_size, fault_of}
use Rattle.uecp_jobs.specs.JoiningFirst.{not_joined_line}
use Rattle.uecp_jobs.specs.Messages.{spelled, refused_at, messages_first, refusal_in}
use Rattle.uecp_net.specs.declared.saved.batch.KeptOutstanding.TheVariants as kept
use Rattle.uecp_net.specs.Keeping.{KeptServer, kept_of, IsKept}
use Rattle.uecp_net.specs.SavedSending.{Ended, SendsKept}
use Rattle.uecp_net.specs.SavedJoining.{Joined}
use Rattle.kept_jobs.specs.declared.stop.KeptStop.{KeptStop}
use Rattle.kept_jobs.specs.declared.stop.KeptStop.TheVariants.{Run, Unanswered, StateFailed}
use Rattle.kept_jobs.specs.Stops.{Went, Then, TellsKept, stop_status, stop_lines, stop_for, heard_nothing}
use Rattle.kept_jobs.specs.ServerRun.{Standing}
use Rattle.state_jobs.proofs.Steps.{TellsTaken, BeginsAnew, BeginsAnewIf, JoinsOne, JoinsIf, JoiningTold}
use Rattle.kept_jobs.specs.ServerRun.{SettlesOne, SendsOne}
use Rattle.state_jobs.proofs.Steps.{SettlesFirst, SendsOut, SettledTold, RunsSender}
use Rattle.kept_jobs.specs.ServerRun.{sending, is_due, given_up_line}
use Rattle.state_jobs.proofs.Steps.{SendsMessages, RunsServer, after_refusal}
use Rattle.kept_jobs.specs.ServerKept.{IsReadWith, HasTaken, HasTakenInput, IsReasonFor}
use Rattle.kept_jobs.proofs.Public.{goes, stopped, goes_not_stopped, same_stop, told_stops}
use Rattle.kept_jobs.proofs.Public.{after_on}
use Rattle.state_jobs.proofs.SendingCalls.{after_settling_first, after_batches}
use Rattle.kept_jobs.proofs.Public.{HasBegun}
use Rattle.state_jobs.proofs.Begun.{begun_so, has_begun, joining_if}

-- ---- Statuses.

stops_status : (fault : RunFault) (read : List ℕ) → StopsReading fault read → status_of fault ≡ 3
stops_status run.TooLong read stops = refl
stops_status run.Reading read stops = refl
stops_status run.OutOfMemory read stops = refl
stops_status fault read stops = absurd stops

refused_here : (r : Result (List ℕ) TextFault) (number : ℕ) (later : Option RunFault) (fault : RunFault)
    → (later ≡ Some fault → status_of fault ≡ 1) → refused_at number r later ≡ Some fault → status_of fault ≡ 1
refused_here (Ok message) number later fault next is = next is
refused_here (Err refusal) number later fault next is =
    ap status_of (let same : run.Text number refusal
    ≡ fault = (let e : Some (run.Text number refusal) ≡ Some fault = is in cc) in sym same)

pub refused_status : (texts : List (ℕ × List ℕ)) (fault : RunFault) → refusal_in texts ≡ Some fault
    → status_of fault ≡ 1
refused_status [] fault is = absurd (let no : None ≡ Some fault = is in cc)
refused_status ((number, text) ∷ texts) fault is =
    refused_here (spelled text) number (refusal_in texts) fault (refused_status texts fault) is

module _ {C I O K : Type 0} (opens : C → Option (I × O) → C → Type 0) (closes : C → I → O → C → Type 0)
    (remaining : I → Option (List ℕ)) (contents : O → Option (List ℕ)) (leaves : K → KeptServer → Type 0)
    (is_clean : K → Type 0) (saves fails : K → KeptServer → K → Type 0) where
  abbrev At : Type 0
  At = Standing (SenderOver C I O) K

  abbrev Was : Type 0
  Was = Standing ServerState K

  -- a run that stops for this has status 3, and says of the state that it failed only where a save did
  abbrev Reason : (k' : K) → KeptStop → Type 0
  Reason k' stop = (stop_status stop ≡ 3) × IsReasonFor fails k' stop

  same_reason : (k' : K) (a b : KeptStop) → Reason k' b → stopped a ≡ stopped b → Reason k' a
  same_reason k' a b reason is = subst (λ s. Reason k' s) (sym (same_stop a b is)) reason

  told_reason : (k' : K) (lines : List ℕ) (onward : Went) (held held' : Option (List ℕ)) (stop : KeptStop)
      → (stopped stop ≡ onward → Reason k' stop) → TellsKept lines onward held held' (stopped stop) → Reason k' stop
  told_reason k' lines onward held held' stop next (inl (appends, is)) = next is
  told_reason k' lines onward held held' stop next (inr (begins, inl is)) =
      same_reason k' stop (Run run.Writing) (refl, tt) is
  told_reason k' lines onward held held' stop next (inr (begins, inr is)) =
      same_reason k' stop (Run run.OutOfMemory) (refl, tt) is

  goes_no_reason : (k' : K) (stop : KeptStop) → stopped stop ≡ goes → Reason k' stop
  goes_no_reason k' stop is = absurd (goes_not_stopped stop (sym is))

  stop_for_reason : (k' : K) (counts : ServerCounts) (reason : Outstanding) → Reason k' (stop_for counts reason)
  stop_for_reason k' counts TriesSpent = by (heard_nothing counts)
    where
      by : (b : Bool) → Reason k' (if b then Unanswered else Run run.Outstanding)
      by true = (refl, tt)
      by false = (refl, tt)
  stop_for_reason k' counts ConnectionFailed = (refl, tt)

  fault_of_reason : (k' : K) (reason : Outstanding) → Reason k' (Run (fault_of reason))
  fault_of_reason k' TriesSpent = (refl, tt)
  fault_of_reason k' ConnectionFailed = (refl, tt)

  settled_reason : (k' : K) (counts : ServerCounts) (ended : Ended) (held held' : Option (List ℕ)) (stop : KeptStop)
      → (ended ≡ Err kept.StateFailed → IsReasonFor fails k' StateFailed)
      → SettledTold counts ended held held' (stopped stop) → Reason k' stop
  settled_reason k' counts (Ok settled) held held' stop failed tells =
      told_reason k' _ goes held held' stop (goes_no_reason k' stop) tells
  settled_reason k' counts (Err (kept.Outstanding reason)) held held' stop failed tells =
      told_reason k' _ (stopped (stop_for counts reason)) held held' stop
      (same_reason k' stop (stop_for counts reason) (stop_for_reason k' counts reason)) tells
  settled_reason k' counts (Err kept.StateFailed) held held' stop failed (same, is) =
      same_reason k' stop StateFailed (refl, failed refl) is

  settling_failed : (ended : Ended) (x x' : At)
      → SettlesOne opens closes remaining contents leaves is_clean saves fails ended x x'
      → ended ≡ Err kept.StateFailed → IsReasonFor fails x'.keeper StateFailed
  settling_failed (Ok settled) x x' one is = absurd (let no : Ok settled ≡ Err kept.StateFailed = is in cc)
  settling_failed (Err (kept.Outstanding reason)) x x' one is =
      absurd (let no : kept.Outstanding reason ≡ kept.StateFailed =
      (let e : Err (kept.Outstanding reason) ≡ Err kept.StateFailed = is in cc) in cc)
  settling_failed (Err kept.StateFailed) x x' one is = (x.keeper, _, one.settles.2)

  sending_failed : (batch : List (List ℕ)) (ended : Ended) (x x' : At)
      → SendsOne opens closes remaining contents leaves is_clean saves fails batch ended x x'
      → ended ≡ Err kept.StateFailed → IsReasonFor fails x'.keeper StateFailed
  sending_failed batch ended x x' one is =
      by (subst (λ e. SendsKept opens closes remaining contents saves fails x'.progress (submitted_all x.runs batch)
      x'.runs x.keeper x'.keeper e) is one.sends)
    where
      by : SendsKept opens closes remaining contents saves fails x'.progress (submitted_all x.runs batch) x'.runs
          x.keeper x'.keeper (Err kept.StateFailed) → IsReasonFor fails x'.keeper StateFailed
      by (inl (between, saved, (settled, settles, failed))) = (between, _, failed)
      by (inr (told, same, failed)) = (x.keeper, _, failed)

  batches_status : (size n : ℕ) (messages : List (List ℕ)) (x x' : At) (stop : KeptStop)
      → SendsOut opens closes remaining contents leaves is_clean saves fails size n messages x x' (stopped stop)
      → Reason x'.keeper stop
  batches_status size zero messages x x' stop (none, same, is) = absurd (goes_not_stopped stop (sym is))
  batches_status size (suc n) messages x x' stop (some, inl (y, first, rest)) =
      batches_status size n (drop size messages) y x' stop rest
  batches_status size (suc n) messages x x' stop (some, inr (why, (ended, one, tells), is)) =
      same_reason x'.keeper stop why (settled_reason x'.keeper x'.runs.sender.server.counts ended x.held x'.held why
      (sending_failed (take size messages) ended x x' one) tells) is

  settling_status : (x x' : At) (stop : KeptStop)
      → SettlesFirst opens closes remaining contents leaves is_clean saves fails x x' (stopped stop)
      → Reason x'.keeper stop
  settling_status x x' stop (inl (idle, same, is)) = absurd (goes_not_stopped stop (sym is))
  settling_status x x' stop (inr (some, (ended, one, tells))) =
      settled_reason x'.keeper x'.runs.sender.server.counts ended x.held x'.held stop (settling_failed ended x x' one)
      tells

  joining_status : (due : Bool) (x x' : At) (stop : KeptStop)
      → JoinsIf opens closes remaining contents leaves is_clean saves fails due x x' (stopped stop)
      → Reason x'.keeper stop
  joining_status false x x' stop (same, is) = absurd (goes_not_stopped stop (sym is))
  joining_status true x x' stop (joined, one, tells) = by joined one tells
    where
      by : (joined : Joined) → JoinsOne opens closes remaining contents leaves is_clean saves fails joined x x'
          → JoiningTold joined x.held x'.held (stopped stop) → Reason x'.keeper stop
      by (Ok done) one tells = told_reason x'.keeper _ goes x.held x'.held stop (goes_no_reason x'.keeper stop) tells
      by (Err (kept.Outstanding reason)) one tells =
          told_reason x'.keeper _ (stopped (Run (fault_of reason))) x.held x'.held stop
          (same_reason x'.keeper stop (Run (fault_of reason)) (fault_of_reason x'.keeper reason)) tells
      by (Err kept.StateFailed) one (same, is) =
          same_reason x'.keeper stop StateFailed (refl, (x.keeper, _, one.joins.1)) is

  sender_status : (due : Bool) (size : ℕ) (messages : List (List ℕ)) (x x' : At) (stop : KeptStop)
      → RunsSender opens closes remaining contents leaves is_clean saves fails due size messages x x' (stopped stop)
      → Reason x'.keeper stop
  sender_status due size messages x x' stop (inl (y, joins, inl (z, settles, (n, sends)))) =
      batches_status size n messages z x' stop sends
  sender_status due size messages x x' stop (inl (y, joins, inr (why, settles, is))) =
      same_reason x'.keeper stop why (settling_status y x' why settles) is
  sender_status due size messages x x' stop (inr (why, joins, is)) =
      same_reason x'.keeper stop why (joining_status due x x' why joins) is

  anew_status : (x y : Was) (stop : KeptStop) → BeginsAnew leaves is_clean saves fails x y (stopped stop)
      → Reason y.keeper stop
  anew_status x y stop anew_so = by anew_so.saved
    where
      by : (saves x.keeper (kept_of y.progress y.runs) y.keeper
          × TellsKept (given_up_line (length (waiting x.runs))) (Ok tt) x.held y.held (stopped stop))
          ⊎ (fails x.keeper (kept_of y.progress y.runs) y.keeper × (y.held ≡ x.held)
          × (stopped stop ≡ stopped StateFailed)) → Reason y.keeper stop
      by (inl (saved, tells)) =
          told_reason y.keeper (given_up_line (length (waiting x.runs))) goes x.held y.held stop
          (goes_no_reason y.keeper stop) tells
      by (inr (failed, same, is)) = same_reason y.keeper stop StateFailed (refl, (x.keeper, _, failed)) is

  begin_status : (due : Bool) (x y : Was) (stop : KeptStop)
      → Then TellsTaken (BeginsAnewIf leaves is_clean saves fails due) x y (stopped stop) → Reason y.keeper stop
  begin_status false x y stop (inl (w, told, (same, is))) = absurd (goes_not_stopped stop (sym is))
  begin_status true x y stop (inl (w, told, anew_so)) = anew_status w y stop anew_so
  begin_status due x y stop (inr (why, (same, tells), is)) =
      same_reason y.keeper stop why (told_reason y.keeper _ goes x.held y.held why (goes_no_reason y.keeper why) tells)
      is

  pub messages_status : (join : Bool) (size : ℕ) (limits : Limits) (messages : List (List ℕ)) (c c' : C) (x : Was)
      (k' : K)
      (held' : Option (List ℕ)) (stop : KeptStop)
      → SendsMessages opens closes remaining contents leaves is_clean saves fails join size limits messages c c' x k'
      held' (stopped stop) → Reason k' stop
  messages_status join size limits messages c c' x k' held' stop
      (inl (y, loan, z, begins, ran, finishes, keeper, held)) =
      subst (λ k. Reason k stop) (sym keeper) (sender_status (is_due join x.progress) size messages _ z stop ran)
  messages_status join size limits messages c c' x k' held' stop
      (inr (y, why, begins, is, connect, keeper, held)) =
      subst (λ k. Reason k stop) (sym keeper)
      (same_reason y.keeper stop why (begin_status (is_due join x.progress) x y why begins) is)

  -- ---- Where all was acknowledged.

  pub settled_idle : (ended : Ended) (x x' : At) (held held' : Option (List ℕ))
      → SettlesOne opens closes remaining contents leaves is_clean saves fails ended x x'
      → SettledTold x'.runs.sender.server.counts ended held held' goes → x'.runs.sender.server.held ≡ []
  settled_idle (Ok settled) x x' held held' one tells = ap (λ s. s.held) one.settles.0.freed
  settled_idle (Err (kept.Outstanding reason)) x x' held held' one tells =
      absurd (told_stops (codes "outstanding\n") (stop_for x'.runs.sender.server.counts reason) held held' goes tells
      refl)
  settled_idle (Err kept.StateFailed) x x' held held' one (same, is) = absurd (goes_not_stopped StateFailed is)

  pub sent_idle : (batch : List (List ℕ)) (ended : Ended) (x x' : At) (held held' : Option (List ℕ))
      → SendsOne opens closes remaining contents leaves is_clean saves fails batch ended x x'
      → SettledTold x'.runs.sender.server.counts ended held held' goes → x'.runs.sender.server.held ≡ []
  sent_idle batch (Ok settled) x x' held held' one tells = by one.sends
    where
      by : SendsKept opens closes remaining contents saves fails x'.progress (submitted_all x.runs batch) x'.runs
          x.keeper
          x'.keeper (Ok settled) → x'.runs.sender.server.held ≡ []
      by (inl (between, saved, (acknowledges, again))) = ap (λ s. s.held) acknowledges.freed
      by (inr (is, same, failed)) = absurd (let no : Ok settled ≡ Err kept.StateFailed = is in cc)
  sent_idle batch (Err (kept.Outstanding reason)) x x' held held' one tells =
      absurd (told_stops (codes "outstanding\n") (stop_for x'.runs.sender.server.counts reason) held held' goes tells
      refl)
  sent_idle batch (Err kept.StateFailed) x x' held held' one (same, is) = absurd (goes_not_stopped StateFailed is)

  -- so many messages more are taken, and none waits
  record Took (messages : ℕ) (x x' : At) : Type 0 where
    pub taken : x'.progress.taken ≡ x.progress.taken + messages
    pub joined : x'.progress.joined ≡ x.progress.joined
    pub idle : x'.runs.sender.server.held ≡ []

  batches_took : (size n : ℕ) (messages : List (List ℕ)) (x x' : At) → x.runs.sender.server.held ≡ []
      → SendsOut opens closes remaining contents leaves is_clean saves fails size n messages x x' goes
      → Took (length messages) x x'
  batches_took size zero messages x x' idle (none, same, is) =
      subst (λ y. Took (length messages) x y) (sym same) (record {
        taken = (let zero_of = ap length none in omega (arith, zero_of));
        joined = refl;
        idle = idle;
      })
  batches_took size (suc n) messages x x' idle (some, inl (y, (ended, one, tells), rest)) =
      let others = batches_took size n (drop size messages) y x'
      (sent_idle (take size messages) ended x y x.held y.held one tells) rest in
      let front = length-take size messages in
      let back = length-drop size messages in
      let first = ap (λ p. p.taken) one.progress in
      let later = others.taken in record {
        taken = omega (arith, front, back, first, later);
        joined = others.joined ∙ ap (λ p. p.joined) one.progress;
        idle = others.idle;
      }
  batches_took size (suc n) messages x x' idle (some, inr (stop, first, is)) = absurd (goes_not_stopped stop is)

  settling_took : (x x' : At) → SettlesFirst opens closes remaining contents leaves is_clean saves fails x x' goes
      → Took 0 x x'
  settling_took x x' (inl (idle, same, is)) =
      subst (λ y. Took 0 x y) (sym same) (record { taken = omega arith; joined = refl; idle = idle })
  settling_took x x' (inr (some, (ended, one, tells))) = record {
    taken = (let same = ap (λ p. p.taken) one.progress in omega (arith, same));
    joined = ap (λ p. p.joined) one.progress;
    idle = settled_idle ended x x' x.held x'.held one tells;
  }

  -- the encoder is joined, and as many messages are taken
  joining_took : (due : Bool) (x x' : At) → (due ≡ false → x.progress.joined ≡ true)
      → JoinsIf opens closes remaining contents leaves is_clean saves fails due x x' goes
      → (x'.progress.taken ≡ x.progress.taken) × (x'.progress.joined ≡ true)
  joining_took false x x' before (same, is) =
      (ap (λ (s : At). s.progress.taken) same, ap (λ (s : At). s.progress.joined) same ∙ before refl)
  joining_took true x x' before (joined, one, tells) = by joined one tells
    where
      by : (joined : Joined) → JoinsOne opens closes remaining contents leaves is_clean saves fails joined x x'
          → JoiningTold joined x.held x'.held goes
          → (x'.progress.taken ≡ x.progress.taken) × (x'.progress.joined ≡ true)
      by (Ok done) one tells = (ap (λ p. p.taken) one.progress, ap (λ p. p.joined) one.progress)
      by (Err (kept.Outstanding reason)) one tells =
          absurd (told_stops not_joined_line (Run (fault_of reason)) x.held x'.held goes tells refl)
      by (Err kept.StateFailed) one (same, is) = absurd (goes_not_stopped StateFailed is)

  sender_took : (due : Bool) (size : ℕ) (messages : List (List ℕ)) (x x' : At)
      → (due ≡ false → x.progress.joined ≡ true)
      → RunsSender opens closes remaining contents leaves is_clean saves fails due size messages x x' goes
      → (x'.progress.taken ≡ x.progress.taken + length messages) × (x'.progress.joined ≡ true)
      × (x'.runs.sender.server.held ≡ [])
  sender_took due size messages x x' before (inl (y, joins, inl (z, settles, (n, sends)))) =
      let (first, joined) = joining_took due x y before joins in
      let settling = settling_took y z settles in
      let sending = batches_took size n messages z x' settling.idle sends in
      let second = settling.taken in
      let third = sending.taken in (
        omega (arith, first, second, third),
        sending.joined ∙ settling.joined ∙ joined,
        sending.idle,
      )
  sender_took due size messages x x' before (inl (y, joins, inr (stop, settles, is))) =
      absurd (goes_not_stopped stop is)
  sender_took due size messages x x' before (inr (stop, joins, is)) = absurd (goes_not_stopped stop is)

  -- what a crash leaves of a sender that sent all
  record Sent (x x' : At) : Type 0 where
    pub clean : is_clean x'.keeper → is_clean x.keeper
    pub settled : IsKept (leaves x.keeper) x.progress x.runs.sender.server → is_clean x'.keeper
        → IsKept (leaves x'.keeper) x'.progress x'.runs.sender.server

  sender_kept : (due : Bool) (size : ℕ) (messages : List (List ℕ)) (x x' : At)
      → RunsSender opens closes remaining contents leaves is_clean saves fails due size messages x x' goes → Sent x x'
  sender_kept due size messages x x' (inl (y, joins, inl (z, settles, (n, sends)))) =
      let one = joining_if opens closes remaining contents leaves is_clean saves fails due x y goes joins in
      let rest = after_on opens closes remaining contents leaves is_clean saves fails 0 (length messages) y z x' goes
      (after_settling_first opens closes remaining contents leaves is_clean saves fails y z goes settles)
      (after_batches opens closes remaining contents leaves is_clean saves fails size n messages z x' goes sends) in
      record {
        clean = λ clean. one.clean (rest.clean clean);
        settled = λ settled clean. rest.settled refl (one.settled refl settled (rest.clean clean)) clean;
      }
  sender_kept due size messages x x' (inl (y, joins, inr (stop, settles, is))) = absurd (goes_not_stopped stop is)
  sender_kept due size messages x x' (inr (stop, joins, is)) = absurd (goes_not_stopped stop is)

  was_joined : (join joined : Bool) → (join || not joined) ≡ false → joined ≡ true
  was_joined true joined is = absurd (let no : true ≡ false = is in cc)
  was_joined false true is = refl
  was_joined false false is = absurd (let no : true ≡ false = is in cc)

  still_joined : (due : Bool) (x y : Was) → HasBegun leaves is_clean saves fails due x y
      → (due ≡ false → x.progress.joined ≡ true) → due ≡ false → y.progress.joined ≡ true
  still_joined false x y (runs, progress) before is = ap (λ p. p.joined) progress ∙ before is
  still_joined true x y begun before is = absurd (let no : true ≡ false = is in cc)

  still_taken : (due : Bool) (x y : Was) → HasBegun leaves is_clean saves fails due x y
      → y.progress.taken ≡ x.progress.taken
  still_taken false x y (runs, progress) = ap (λ p. p.taken) progress
  still_taken true x y (runs, progress) = ap (λ p. p.taken) progress

  has_taken : (due : Bool) (size : ℕ) (messages : List (List ℕ)) (c : C) (loan : ℕ) (limits : Limits) (x y : Was)
      (z : At) → (due ≡ false → x.progress.joined ≡ true)
      → Then TellsTaken (BeginsAnewIf leaves is_clean saves fails due) x y goes
      → RunsSender opens closes remaining contents leaves is_clean saves fails due size messages
      (sending opens closes remaining contents leaves is_clean saves fails c loan limits y) z goes
      → IsKept (leaves x.keeper) x.progress x.runs → is_clean z.keeper → (left : KeptServer) → leaves z.keeper left
      → HasTaken x.progress (length messages) left
  has_taken due size messages c loan limits x y z before begins ran settled clean left leaves_it =
      let start = sending opens closes remaining contents leaves is_clean saves fails c loan limits y in
      let begun = begun_so leaves is_clean saves fails due x y goes begins in
      let has = has_begun leaves is_clean saves fails due x y begins in
      let kept = sender_kept due size messages start z ran in
      let is = kept.settled (begun.settled refl settled (kept.clean clean)) clean left leaves_it in
      let took = sender_took due size messages start z (still_joined due x y has before) ran in
      let first = still_taken due x y has in
      let second : z.progress.taken ≡ y.progress.taken + length messages = took.0 in
      let last = ap (λ (k : KeptServer). k.taken) is in
      record {
        taken = (let same : left.taken ≡ z.progress.taken = last in omega (arith, same, first, second));
        none_waits = ap (λ (k : KeptServer). k.held) is ∙ took.2;
        joined = ap (λ (k : KeptServer). k.joined) is ∙ took.1;
      }

  messages_taken : (join : Bool) (size : ℕ) (limits : Limits) (messages : List (List ℕ)) (c c' : C) (x : Was) (k' : K)
      (held' : Option (List ℕ))
      → SendsMessages opens closes remaining contents leaves is_clean saves fails join size limits messages c c' x k'
      held' goes
      → IsKept (leaves x.keeper) x.progress x.runs → is_clean k' → (left : KeptServer) → leaves k' left
      → HasTaken x.progress (length messages) left
  messages_taken join size limits messages c c' x k' held' (inl (y, loan, z, begins, ran, finishes, keeper, held))
      settled clean left leaves_it =
      has_taken (is_due join x.progress) size messages c loan limits x y z (was_joined join x.progress.joined) begins
      ran
      settled (subst is_clean keeper clean) left (subst (λ k. leaves k left) keeper leaves_it)
  messages_taken join size limits messages c c' x k' held' (inr (y, stop, begins, is, connect, keeper, held)) settled
      clean left leaves_it = absurd (goes_not_stopped stop is)

  -- ---- A whole run.

  -- how a run that stopped for this did so: at a line that is refused, and then all before it is acknowledged; or with
  -- status 3
  abbrev pub Stopped : (unread unread' : Option (List ℕ)) (x : Was) (k' : K) → KeptStop → Type 0
  Stopped unread unread' x k' stop =
      ((fault : RunFault) × (stop ≡ Run fault) × (stop_status stop ≡ 1) × IsReadWith (Some fault) unread unread'
      × (IsKept (leaves x.keeper) x.progress x.runs → is_clean k' → (left : KeptServer) → leaves k' left
      → HasTakenInput unread unread' x.progress left))
      ⊎ Reason k' stop

  pub run_done : (window : ℕ) (join : Bool) (limits : Limits) (unread unread' : Option (List ℕ)) (c c' : C) (x : Was)
      (k' : K) (held' : Option (List ℕ))
      → RunsServer opens closes remaining contents leaves is_clean saves fails window join limits unread unread' c c' x
      k' held' goes
      → IsReadWith None unread unread'
      × (IsKept (leaves x.keeper) x.progress x.runs → is_clean k' → (left : KeptServer) → leaves k' left
      → HasTakenInput unread unread' x.progress left)
  run_done window join limits unread unread' c c' x k' held' (inl (input, sent, is_input, sends, is)) =
      by sent (refusal_in (texts_of input)) refl sends is
    where
      by : (sent : Went) (refusal : Option RunFault) → refusal_in (texts_of input) ≡ refusal
          → SendsMessages opens closes remaining contents leaves is_clean saves fails join (batch_size window) limits
          (messages_first (texts_of input)) c c' x k' held' sent
          → goes ≡ after_refusal refusal sent
          → IsReadWith None unread unread'
          × (IsKept (leaves x.keeper) x.progress x.runs → is_clean k' → (left : KeptServer) → leaves k' left
          → HasTakenInput unread unread' x.progress left)
      by (Ok done) None refusal sends is = (
        (input, is_input, refusal),
        λ settled clean left leaves_it. (
          input,
          is_input,
          messages_taken join (batch_size window) limits
              (messages_first (texts_of input)) c c' x k' held' sends settled clean left leaves_it,
        ),
      )
      by (Ok done) (Some fault) refusal sends is = absurd (goes_not_stopped (Run fault) is)
      by (Err stop) refused refusal sends is = absurd (goes_not_stopped stop is)
  run_done window join limits unread unread' c c' x k' held' (inr (fault, why, is, connect, keeper, held)) =
      absurd (goes_not_stopped (Run fault) is)

  pub unread_status : (unread unread' : Option (List ℕ)) (fault : RunFault)
      → IsUnread unread unread' fault ⊎ ((input : List ℕ) × IsInput unread unread' input × (fault ≡ run.OutOfMemory))
      → stop_status (Run fault) ≡ 3
  unread_status unread unread' fault (inl (read, consumed, stops)) = stops_status fault read stops
  unread_status unread unread' fault (inr (input, is_input, is)) = ap status_of is

  pub run_stopped : (window : ℕ) (join : Bool) (limits : Limits) (unread unread' : Option (List ℕ)) (c c' : C) (x : Was)
      (k' : K) (held' : Option (List ℕ)) (stop : KeptStop)
      → RunsServer opens closes remaining contents leaves is_clean saves fails window join limits unread unread' c c' x
      k' held' (stopped stop) → Stopped unread unread' x k' stop
  run_stopped window join limits unread unread' c c' x k' held' stop (inl (input, sent, is_input, sends, is)) =
      by sent (refusal_in (texts_of input)) refl sends is
    where
      by : (sent : Went) (refusal : Option RunFault) → refusal_in (texts_of input) ≡ refusal
          → SendsMessages opens closes remaining contents leaves is_clean saves fails join (batch_size window) limits
          (messages_first (texts_of input)) c c' x k' held' sent
          → stopped stop ≡ after_refusal refusal sent → Stopped unread unread' x k' stop
      by (Ok done) None refusal sends is = absurd (goes_not_stopped stop (sym is))
      by (Ok done) (Some fault) refusal sends is =
          let same = same_stop stop (Run fault) is in
          inl (
            fault,
            same,
            ap stop_status same ∙ refused_status (texts_of input) fault refusal,
            (input, is_input, refusal),
            λ settled clean left leaves_it. (
              input,
              is_input,
              messages_taken join (batch_size window) limits
                  (messages_first (texts_of input)) c c' x k' held' sends settled clean left leaves_it,
            ),
          )
      by (Err why) refused refusal sends is =
          inr (same_reason k' stop why
          (messages_status join (batch_size window) limits (messages_first (texts_of input)) c c' x k' held' why sends)
          is)
  run_stopped window join limits unread unread' c c' x k' held' stop (inr (fault, why, is, connect, keeper, held)) =
      inr (same_reason k' stop (Run fault) (unread_status unread unread' fault why, tt) is)

  -- what is said of a run that stopped
  pub record Said (unread unread' : Option (List ℕ)) (x : Was) (k' : K) (answer : ℕ) (says : List ℕ → Type 0)
      : Type 0 where
    pub status : (answer ≡ 0) ⊎ (answer ≡ 1) ⊎ (answer ≡ 3)
    pub not_done : answer ≡ 0 → ⊥
    pub refused : answer ≡ 1 → (fault : RunFault) × IsReadWith (Some fault) unread unread'
        × says (error_lines fault)
    pub failed : answer ≡ 3 → (stop : KeptStop) × IsReasonFor fails k' stop × says (stop_lines stop)
    pub kept : (answer ≡ 0) ⊎ (answer ≡ 1) → IsKept (leaves x.keeper) x.progress x.runs → is_clean k'
        → (left : KeptServer) → leaves k' left → HasTakenInput unread unread' x.progress left

  pub said_so : (unread unread' : Option (List ℕ)) (x : Was) (k' : K) (stop : KeptStop) (answer : ℕ)
      (says : List ℕ → Type 0) → Stopped unread unread' x k' stop → answer ≡ stop_status stop
      → says (stop_lines stop) → Said unread unread' x k' answer says
  said_so unread unread' x k' stop answer says (inl (fault, same, one, read, kept)) is said =
      let is_one : answer ≡ 1 = is ∙ one in record {
        status = inr (inl is_one);
        not_done = λ zero_is. absurd (let no : 0 ≡ 1 = sym zero_is ∙ is_one in cc);
        refused = λ it_is. (fault, read, subst (λ s. says (stop_lines s)) same said);
        failed = λ three_is. absurd (let no : 3 ≡ 1 = sym three_is ∙ is_one in cc);
        kept = λ some. kept;
      }
  said_so unread unread' x k' stop answer says (inr (three, reason)) is said =
      let is_three : answer ≡ 3 = is ∙ three in record {
        status = inr (inr is_three);
        not_done = λ zero_is. absurd (let no : 0 ≡ 3 = sym zero_is ∙ is_three in cc);
        refused = λ one_is. absurd (let no : 1 ≡ 3 = sym one_is ∙ is_three in cc);
        failed = λ it_is. (stop, reason, said);
        kept = by;
      }
    where
      by : (answer ≡ 0) ⊎ (answer ≡ 1) → IsKept (leaves x.keeper) x.progress x.runs → is_clean k'
          → (left : KeptServer) → leaves k' left → HasTakenInput unread unread' x.progress left
      by (inl zero_is) = absurd (let no : 0 ≡ 3 = sym zero_is ∙ is ∙ three in cc)
      by (inr one_is) = absurd (let no : 1 ≡ 3 = sym one_is ∙ is ∙ three in cc)
