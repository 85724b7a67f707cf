-- What the calls do that the program makes is done by events of both ends.
use mathlib.Core.Path.{fun_ext}
use Rattle.std.proofs.Common.{◌≡◌, ℕ, zero, suc, Bool, true, false, cond, List, [], ◌∷◌, ◌++◌, length, map, Option}
use Rattle.std.proofs.Common.{Some, None, Ok, Err, refl, ap, sym, subst, ◌∙◌, inl, inr, ◌⊎◌, append_assoc, append-nil}
use Rattle.std.specs.Prelude.{Result}
use Rattle.std.specs.Option.{option_or}
use Rattle.std.specs.List.{AllByRecursion}
use Rattle.std.proofs.lemmas.Bool.{false≢true}
use Rattle.uecp_elements.specs.declared.code.Code.{Code}
use Rattle.uecp_frame.specs.Findings.{Closed}
use Rattle.uecp_encoder.specs.Target.{Step, Taken}
use Rattle.uecp_encoder.specs.State.{EncoderState, fed}
use Rattle.uecp_encoder.specs.Keeping.{kept_of as encoder_kept, going_on as encoder_going_on}
use Rattle.uecp_link.specs.Counters.{counter_of}
use Rattle.uecp_link.specs.declared.driving.DriveFault.{DriveFault}
use Rattle.uecp_link.specs.declared.driving.DriveFault.TheVariants as drive
use Rattle.uecp_link.specs.declared.window.Windowed.{Windowed}
use Rattle.uecp_link.specs.declared.window.Windowed.TheVariants.{Idle, Spent}
use Rattle.uecp_link.specs.Server.{ServerState, counters_waiting, heard}
use Rattle.uecp_link.specs.Window.{code_under, marks_in}
use Rattle.uecp_link.proofs.Public.{code_under-append}
use Rattle.uecp_net.specs.declared.sender.Outstanding.{Outstanding as Reason}
use Rattle.uecp_net.specs.declared.sender.Outstanding.TheVariants.{ConnectionFailed}
use Rattle.uecp_net.specs.declared.sender.Settled.{Settled}
use Rattle.uecp_net.specs.declared.saved.keep.Progress.{Progress}
use Rattle.uecp_net.specs.declared.saved.batch.KeptOutstanding.TheVariants.{Outstanding, StateFailed}
use Rattle.uecp_net.specs.Sending.{SenderOver, Marks, Delivers, Attempts, HangsUp, GoesOn, Tried, SpentCalls}
use Rattle.uecp_net.specs.Sending.{Underway, underway, Calls, AreTold, submitted_all, submitted_to, reconnecting}
use Rattle.uecp_net.specs.Sending.{reason_of}
use Rattle.uecp_net.specs.Keeping.{KeptServer, kept_of, going_on, taking}
use Rattle.uecp_net.specs.SavedSending.{Ended, SettlesKept, SendsKept, Outlives, OutlivesBatch, Acknowledges, GivesUp}
use Rattle.uecp_net.specs.SavedSending.{Settles}
use Rattle.promises.specs.Station.{progress_in}
use Rattle.promises.specs.DeviceLives.{DeviceEvent, HangsUp as DeviceHangsUp, Crashes, TakesGroup, StartsAgain, Deed}
use Rattle.promises.specs.DeviceLives.{Reads as DeviceReads, Happens}
use Rattle.promises.specs.Ends.{Studio, Transmitter, EndEvent, SaysStation, TakesLines, Dials, Writes, Hears, Tells}
use Rattle.promises.specs.Ends.{StudioCrashes}
use Rattle.promises.specs.Ends.{Reads, Leaves, EncoderCrashes, Gives, Stranger, is_at_studio, is_of_last, heard_with}
use Rattle.promises.specs.Ends.{studio_after, transmitter_after, submitted_each, run_studio, run_transmitter}
use Rattle.promises.specs.Doings.{IsOnConnection, GoesOver, HasServer, IsUntold, SettlesAs, CrashesAs, StudioDoes}
use Rattle.promises.specs.Doings.{TransmitterDoes}
use Rattle.promises.specs.Doings.{DaysAreEndEvents}
use Rattle.promises.proofs.Days.{fed_lived}
use Rattle.promises.proofs.EndLists.{all_append}

-- ---- lists of events

pub runs_on : (x : Studio) (xs ys : List EndEvent) → run_studio x (xs ++ ys) ≡ run_studio (run_studio x xs) ys
runs_on x [] ys = refl
runs_on x (event ∷ xs) ys = runs_on (studio_after x event) xs ys

on_is_at : (event : EndEvent) → IsOnConnection event → is_at_studio event ≡ true
on_is_at (SaysStation ms) on = refl
on_is_at (TakesLines ms) on = refl
on_is_at Dials on = refl
on_is_at Writes on = refl
on_is_at (Hears bytes) on = refl
on_is_at Tells on = refl
on_is_at (StudioCrashes saved) on = refl
on_is_at (Reads bytes) on = absurd on
on_is_at Leaves on = absurd on
on_is_at EncoderCrashes on = absurd on
on_is_at Gives on = absurd on
on_is_at (Stranger bytes) on = absurd on

pub all_at : (events : List EndEvent) → AllByRecursion IsOnConnection events
    → AllByRecursion (λ event. is_at_studio event ≡ true) events
all_at [] on = tt
all_at (event ∷ events) on = (on_is_at event on.0, all_at events on.1)

-- ---- codes that are heard

heard_none : (n : ℕ) (h : ℕ → Option Code) → heard_with n h [] ≡ h
heard_none n h = fun_ext (λ k. go k (is_of_last n k) (h k))
  where
    go : (k : ℕ) (b : Bool) (c : Option Code) → cond b (option_or c None) c ≡ c
    go k true (Some c) = refl
    go k true None = refl
    go k false c = refl

heard_more : (n : ℕ) (h : ℕ → Option Code) (xs ys : Marks)
    → heard_with n (heard_with n h xs) ys ≡ heard_with n h (xs ++ ys)
heard_more n h xs ys = fun_ext (λ k.
    go k (is_of_last n k) (h k)
    ∙ ap (λ (c : Option Code). cond (is_of_last n k) (option_or (h k) c) (h k))
    (sym (code_under-append (counter_of k) xs ys)))
  where
    go : (k : ℕ) (b : Bool) (c : Option Code)
        → cond b (option_or (cond b (option_or c (code_under (counter_of k) xs)) c) (code_under (counter_of k) ys))
        (cond b (option_or c (code_under (counter_of k) xs)) c)
        ≡ cond b (option_or c (option_or (code_under (counter_of k) xs) (code_under (counter_of k) ys))) c
    go k true (Some c) = refl
    go k true None = refl
    go k false c = refl

-- a call whose save did not fail
abbrev is_failed : Ended → Bool
is_failed (Ok settled) = false
is_failed (Err (Outstanding reason)) = false
is_failed (Err StateFailed) = true

not_failed : (ended : Ended) → is_failed ended ≡ false → ended ≡ Err StateFailed → ⊥
not_failed ended well is = false≢true (sym well ∙ ap is_failed is)

-- ---- over connections

goes_none : (x : Studio) → GoesOver x x.server []
goes_none x = record {
  events = [];
  on = tt;
  leads = ap (λ (h : ℕ → Option Code). record x { heard = h }) (sym (heard_none (length x.sent) x.heard));
}

goes_on : (x : Studio) (server server' : ServerState) (xs ys : Marks) → GoesOver x server xs
    → GoesOver (record x { server = server; heard = heard_with (length x.sent) x.heard xs }) server' ys
    → GoesOver x server' (xs ++ ys)
goes_on x server server' xs ys one more = record {
  events = one.events ++ more.events;
  on = all_append IsOnConnection one.events more.events one.on more.on;
  leads = runs_on x one.events more.events
      ∙ ap (λ (y : Studio). run_studio y more.events) one.leads ∙ more.leads
      ∙ ap (λ (h : ℕ → Option Code). record x { server = server'; heard = h })
      (heard_more (length x.sent) x.heard xs ys);
}

goes_as : (x : Studio) (server server' : ServerState) (marks : Marks) → server ≡ server' → GoesOver x server marks
    → GoesOver x server' marks
goes_as x server server' marks same h = subst (λ (s : ServerState). GoesOver x s marks) same h

goes_dialled : (x : Studio) → GoesOver x (record x.server { part = Closed }) []
goes_dialled x = record {
  events = Dials ∷ [];
  on = (tt, tt);
  leads = ap (λ (h : ℕ → Option Code). record x { server = record x.server { part = Closed }; heard = h })
      (sym (heard_none (length x.sent) x.heard));
}

goes_tried : (x : Studio) (bytes : List ℕ) → GoesOver x (heard x.server bytes) (marks_in x.server bytes)
goes_tried x bytes = record {
  events = Writes ∷ Hears bytes ∷ [];
  on = (tt, (tt, tt));
  leads = refl;
}

-- from a studio that has the first of these servers it goes to the second, with the marks that came
abbrev GoesFrom : (server server' : ServerState) → (marks marks' : Marks) → Type 0
GoesFrom server server' marks marks' = (x : Studio) → x.server ≡ server
    → (more : Marks) × (marks' ≡ marks ++ more) × GoesOver x server' more

from_none : (server : ServerState) (marks : Marks) → GoesFrom server server marks marks
from_none server marks x same = ([], sym (append-nil marks), goes_as x x.server server [] same (goes_none x))

from_on : (a b c : ServerState) (m m1 m2 : Marks) → GoesFrom a b m m1 → GoesFrom b c m1 m2 → GoesFrom a c m m2
from_on a b c m m1 m2 first then_ x same =
    let (some, some_are, one) = first x same in
    let (more, more_are, rest) =
    then_ (record x { server = b; heard = heard_with (length x.sent) x.heard some }) refl in (
      some ++ more,
      more_are ∙ ap (λ (l : Marks). l ++ more) some_are ∙ append_assoc m some more,
      goes_on x b c some more one rest,
    )

-- a batch is submitted message by message
pub taken_so : {C I O : Type 0} (s : SenderOver C I O) (batch : List (List ℕ))
    → (submitted_all s batch).sender.server ≡ submitted_each s.sender.server batch
taken_so s [] = refl
taken_so s (m ∷ batch) = taken_so (submitted_to s m) batch

module _ {C I O K : Type 0} (opens : C → Option (I × O) → C → Type 0) (closes : C → I → O → C → Type 0)
    (remaining : I → Option (List ℕ)) (contents : O → Option (List ℕ)) (saves fails : K → KeptServer → K → Type 0) where
  call_goes : (turns : ℕ) (u u' : Underway I O) (result : Result Windowed DriveFault)
      → Calls remaining contents turns u u' result → GoesFrom u.server u'.server u.marks u'.marks
  call_goes turns u u' result call x same = (
    marks_in u.server call.read,
    call.marked,
    goes_as x (heard u.server call.read) u'.server (marks_in u.server call.read) (sym call.state)
        (subst (λ (s : ServerState). GoesOver x (heard s call.read) (marks_in s call.read)) same
        (goes_tried x call.read)),
  )

  spent_goes : (turns calls : ℕ) (u u' : Underway I O) → SpentCalls remaining contents turns calls u u'
      → GoesFrom u.server u'.server u.marks u'.marks
  spent_goes turns zero u u' same =
      subst (λ (v : Underway I O). GoesFrom u.server v.server u.marks v.marks) (sym same) (from_none u.server u.marks)
  spent_goes turns (suc n) u u' (between, spent, call) =
      from_on u.server between.server u'.server u.marks between.marks u'.marks (spent_goes turns n u between spent)
      (call_goes turns between u' (Ok Spent) call)

  tried_goes : (tries turns : ℕ) (u u' : Underway I O) (result : Result ℕ DriveFault)
      → Tried remaining contents tries turns u u' result → GoesFrom u.server u'.server u.marks u'.marks
  tried_goes tries turns u u' (Ok n) (before, between, is, few, spent, call) =
      from_on u.server between.server u'.server u.marks between.marks u'.marks
      (spent_goes turns before u between spent)
      (call_goes turns between u' (Ok Idle) call)
  tried_goes tries turns u u' (Err drive.TriesSpent) spent = spent_goes turns tries u u' spent
  tried_goes tries turns u u' (Err (drive.WriteFailed w)) (before, between, few, spent, call) =
      from_on u.server between.server u'.server u.marks between.marks u'.marks
      (spent_goes turns before u between spent) (call_goes turns between u' (Err (drive.WriteFailed w)) call)
  tried_goes tries turns u u' (Err drive.Closed) (before, between, few, spent, call) =
      from_on u.server between.server u'.server u.marks between.marks u'.marks
      (spent_goes turns before u between spent) (call_goes turns between u' (Err drive.Closed) call)

  abbrev Over : Type 0
  Over = SenderOver C I O

  start_goes : (old start : Over) (marks : Marks) → GoesOn opens old start
      → GoesFrom old.sender.server start.sender.server marks marks
  start_goes old start marks (inl (has, same)) =
      subst (λ (s : Over). GoesFrom old.sender.server s.sender.server marks marks) (sym same)
      (from_none old.sender.server marks)
  start_goes old start marks (inr (none, (input, output, opened, same))) = λ x is. (
    [],
    sym (append-nil marks),
    goes_as x (record x.server { part = Closed }) start.sender.server []
        (ap (λ (s : ServerState). record s { part = Closed }) is ∙ ap (λ (s : Over). s.sender.server) (sym same))
        (goes_dialled x),
  )

  attempt_goes : (old new : Over) (marks marks' : Marks) (result : Result ℕ DriveFault)
      → Attempts opens remaining contents old new marks marks' result
      → GoesFrom old.sender.server new.sender.server marks marks'
  attempt_goes old new marks marks' result a =
      from_on old.sender.server a.start.sender.server new.sender.server marks marks marks'
      (start_goes old a.start marks a.goes_on)
      (tried_goes a.start.sender.tries a.start.sender.turns (underway a.start a.ends marks)
      (underway new a.ends' marks') result a.went)

  hung_up : (s s' : Over) → HangsUp closes s s' → s'.sender.server ≡ s.sender.server
  hung_up s s' (inl (none, same)) = ap (λ (t : Over). t.sender.server) same
  hung_up s s' (inr (ends, has, closed, same)) = ap (λ (t : Over). t.sender.server) same

  pub delivers_goes : (ended : ℕ) (before : Reason) (old new : Over) (marks marks' : Marks) (result : Result ℕ Reason)
      → Delivers opens closes remaining contents ended before old new marks marks' result
      → GoesFrom old.sender.server new.sender.server marks marks'
  delivers_goes (suc n) before old new marks marks' result (fault, last, next, some, attempts, hangs, another, rest) =
      from_on old.sender.server last.sender.server new.sender.server marks some marks'
      (attempt_goes old last marks some (Err fault) attempts)
      (subst (λ (s : ServerState). GoesFrom s new.sender.server some marks') (hung_up last next hangs)
      (delivers_goes n (reason_of fault) (reconnecting next) new some marks' result rest))
  delivers_goes zero before old new marks marks' (Ok calls) attempts =
      attempt_goes old new marks marks' (Ok calls) attempts
  delivers_goes zero before old new marks marks' (Err reason) (inl ((none, opened, same), marked, is)) =
      subst (λ (s : Over). GoesFrom old.sender.server s.sender.server marks marks') (sym same)
      (subst (λ (m : Marks). GoesFrom old.sender.server old.sender.server marks m) (sym marked)
      (from_none old.sender.server marks))
  delivers_goes zero before old new marks marks' (Err reason) (inr (fault, last, attempts, hangs, other, is)) =
      subst (λ (s : ServerState). GoesFrom old.sender.server s marks marks') (sym (hung_up last new hangs))
      (attempt_goes old last marks marks' (Err fault) attempts)

  -- ---- what waits is settled

  abbrev Has : Studio → Progress → Over → Type 0
  Has x progress s = HasServer opens closes remaining contents saves fails x progress s

  -- what went, however it ended
  record Went (x : Studio) (new : Over) : Type 0 where
    marks : Marks
    over : GoesOver x new.sender.server marks
    address : new.sender.server.address ≡ x.server.address

  over_so : (x : Studio) (progress : Progress) (old new : Over) → Has x progress old → (ended : ℕ) (before : Reason)
      (marks : Marks) (result : Result ℕ Reason)
      → Delivers opens closes remaining contents ended before old new [] marks result
      → GoesOver x new.sender.server marks
  over_so x progress old new has ended before marks result delivers =
      let (more, are, over) = delivers_goes ended before old new [] marks result delivers x has.server in
      subst (GoesOver x new.sender.server) (sym are) over

  acknowledged_went : (x : Studio) (progress : Progress) (old new : Over) → Has x progress old → (settled : Settled)
      → Acknowledges opens closes remaining contents old new settled → Went x new
  acknowledged_went x progress old new has settled a = record {
    marks = a.marks;
    over = over_so x progress old new has a.ended ConnectionFailed a.marks (Ok settled.tries) a.delivers;
    address = ap (λ (s : ServerState). s.address) a.freed ∙ ap (λ (s : ServerState). s.address) (sym has.server);
  }

  given_up_went : (x : Studio) (progress : Progress) (old new : Over) → Has x progress old → (reason : Reason)
      → GivesUp opens closes remaining contents old new reason → Went x new
  given_up_went x progress old new has reason g = record {
    marks = g.marks;
    over = over_so x progress old new has g.ended ConnectionFailed g.marks (Err reason) g.delivers;
    address = g.wait.1 ∙ ap (λ (s : ServerState). s.address) (sym has.server);
  }

  settles_went : (x : Studio) (progress : Progress) (old new : Over) → Has x progress old
      → (result : Result Settled Reason) → Settles opens closes remaining contents old new result → Went x new
  settles_went x progress old new has (Ok settled) a = acknowledged_went x progress old new has settled a
  settles_went x progress old new has (Err reason) g = given_up_went x progress old new has reason g

  kept_went : (x : Studio) (progress : Progress) (old new : Over) → Has x progress old → (k k' : K) (ended : Ended)
      → SettlesKept opens closes remaining contents saves fails progress old new k k' ended → Went x new
  kept_went x progress old new has k k' (Ok settled) (a, saved) = acknowledged_went x progress old new has settled a
  kept_went x progress old new has k k' (Err (Outstanding reason)) (g, saved) =
      given_up_went x progress old new has reason g
  kept_went x progress old new has k k' (Err StateFailed) (result, settles, failed) =
      settles_went x progress old new has result settles

  told_so : (x : Studio) (progress : Progress) (old new : Over) → Has x progress old → (marks : Marks)
      → GoesOver x new.sender.server marks
      → SettlesAs x new.sender.server (kept_of progress new.sender.server) marks
  told_so x progress old new has marks over = record {
    over = over.events;
    on = over.on;
    leads = runs_on x over.events (Tells ∷ []) ∙ ap (λ (y : Studio). studio_after y Tells) over.leads
        ∙ ap (λ (file : KeptServer). record x {
          server = new.sender.server;
          file = kept_of (progress_in file) new.sender.server;
          is_saved = true;
          heard = heard_with (length x.sent) x.heard marks;
          told = λ k. option_or (x.told k) (heard_with (length x.sent) x.heard marks k);
        }) has.file;
  }

  settles_so : (x : Studio) (progress : Progress) (old new : Over) (k k' : K) (settled : Settled) → Has x progress old
      → SettlesKept opens closes remaining contents saves fails progress old new k k' (Ok settled)
      → (marks : Marks) × SettlesAs x new.sender.server (kept_of progress new.sender.server) marks
      × AreTold old.sender.server marks settled.codes.items
  settles_so x progress old new k k' settled has (a, saved) = (
    a.marks,
    told_so x progress old new has a.marks
        (over_so x progress old new has a.ended ConnectionFailed a.marks (Ok settled.tries) a.delivers),
    a.told,
  )

  tells_so : (x : Studio) (server : ServerState) (marks : Marks) (codes : List Code) (ks : List ℕ)
      → AreTold server marks codes → counters_waiting server ≡ map counter_of ks → AllByRecursion (IsUntold x) ks
      → map Some codes ≡ map (λ k. option_or (x.told k) (heard_with (length x.sent) x.heard marks k)) ks
  tells_so x server marks codes ks told counters untold =
      told ∙ ap (map (λ c. code_under c marks)) counters ∙ by_number ks untold
    where
      one : (b : Bool) (was heard : Option Code) (c : Option Code) → b ≡ true → was ≡ None → heard ≡ None
          → c ≡ option_or was (cond b (option_or heard c) heard)
      one true None None c is unheard untold = refl
      one false was heard c is unheard untold = absurd (false≢true is)
      one true (Some d) heard c is unheard untold = absurd (cc)
      one true None (Some d) c is unheard untold = absurd (cc)

      by_number : (ks : List ℕ) → AllByRecursion (IsUntold x) ks
          → map (λ c. code_under c marks) (map counter_of ks)
          ≡ map (λ k. option_or (x.told k) (heard_with (length x.sent) x.heard marks k)) ks
      by_number [] all = refl
      by_number (k ∷ ks) all =
          ap (λ (c : Option Code). c ∷ map (λ c. code_under c marks) (map counter_of ks))
          (one (is_of_last (length x.sent) k) (x.told k) (x.heard k) (code_under (counter_of k) marks) all.0.of_last
          all.0.untold all.0.unheard)
          ∙ ap (λ (cs : List (Option Code)).
          option_or (x.told k) (heard_with (length x.sent) x.heard marks k) ∷ cs) (by_number ks all.1)

  settles_not_so : (x : Studio) (progress : Progress) (old new : Over) (k k' : K) (reason : Reason)
      → Has x progress old
      → SettlesKept opens closes remaining contents saves fails progress old new k k' (Err (Outstanding reason))
      → (marks : Marks) × SettlesAs x new.sender.server (kept_of progress new.sender.server) marks
  settles_not_so x progress old new k k' reason has (g, saved) = (
    g.marks,
    told_so x progress old new has g.marks
        (over_so x progress old new has g.ended ConnectionFailed g.marks (Err reason) g.delivers),
  )

  -- ---- a crash

  crash_as_it_was : (x : Studio) (left : KeptServer) → left ≡ x.file → CrashesAs x left
  crash_as_it_was x left is = record {
    over = [];
    on = tt;
    saved = false;
    leads = ap (λ (file : KeptServer). record x {
      server = going_on x.server.address file;
      file = file;
      is_saved = true;
      heard = λ k. None;
    }) (sym is);
  }

  crash_saved : (x : Studio) (progress : Progress) (old new : Over) → Has x progress old → (left : KeptServer)
      → left ≡ kept_of progress new.sender.server → Went x new → CrashesAs x left
  crash_saved x progress old new has left is went = record {
    over = went.over.events;
    on = went.over.on;
    saved = true;
    leads = runs_on x went.over.events (StudioCrashes true ∷ [])
        ∙ ap (λ (y : Studio). studio_after y (StudioCrashes true)) went.over.leads
        ∙ ap (λ (file : KeptServer). restarted new.sender.server.address (kept_of (progress_in file) new.sender.server))
        has.file
        ∙ ap (λ (a : ℕ). restarted a (kept_of progress new.sender.server)) went.address
        ∙ ap (restarted x.server.address) (sym is);
  }
    where
      restarted : ℕ → KeptServer → Studio
      restarted a file = record x { server = going_on a file; file = file; is_saved = true; heard = λ k. None }

  crashes_so : (x : Studio) (progress : Progress) (old new : Over) (k k' : K) (ended : Ended) (left : KeptServer)
      → Has x progress old → SettlesKept opens closes remaining contents saves fails progress old new k k' ended
      → Outlives progress old.sender.server new.sender.server left → CrashesAs x left
  crashes_so x progress old new k k' ended left has settles (inl is) = crash_as_it_was x left (is ∙ sym has.file)
  crashes_so x progress old new k k' ended left has settles (inr is) =
      crash_saved x progress old new has left is (kept_went x progress old new has k k' ended settles)

  -- ---- a batch

  takes_so : (x : Studio) (progress : Progress) (old : Over) (batch : List (List ℕ)) → Has x progress old
      → Has (studio_after x (TakesLines batch)) (taking progress (length batch)) (submitted_all old batch)
  takes_so x progress old batch has =
      let server : submitted_each x.server batch ≡ (submitted_all old batch).sender.server =
      ap (λ (s : ServerState). submitted_each s batch) has.server ∙ sym (taken_so old batch) in
      record {
        server = server;
        file = ap (λ (file : KeptServer). kept_of (taking (progress_in file) (length batch))
            (submitted_each x.server batch)) has.file
            ∙ ap (kept_of (taking progress (length batch))) server;
      }

  sends_so : (progress : Progress) (old new : Over) (k k' : K) (settled : Settled)
      → SendsKept opens closes remaining contents saves fails progress old new k k' (Ok settled)
      → (between : K) × SettlesKept opens closes remaining contents saves fails progress old new between k' (Ok settled)
  sends_so progress old new k k' settled (inl (between, saved, settles)) = (between, settles)
  sends_so progress old new k k' settled (inr (is, stays, failed)) = absurd (not_failed (Ok settled) refl is)

  crashes_sending_so : (x : Studio) (progress : Progress) (old new : Over) (batch : List (List ℕ)) (k k' : K)
      (ended : Ended) (left : KeptServer) → Has x progress old
      → SendsKept opens closes remaining contents saves fails (taking progress (length batch)) (submitted_all old batch)
      new k k' ended
      → OutlivesBatch progress (taking progress (length batch)) old (submitted_all old batch) new left
      → CrashesAs x left ⊎ CrashesAs (studio_after x (TakesLines batch)) left
  crashes_sending_so x progress old new batch k k' ended left has sends (inl (is, none)) =
      inl (crash_as_it_was x left (is ∙ sym has.file))
  crashes_sending_so x progress old new batch k k' ended left has (inl (between, saved, settles)) (inr out) =
      inr (crashes_so (studio_after x (TakesLines batch)) (taking progress (length batch)) (submitted_all old batch) new
      between k' ended left (takes_so x progress old batch has) settles out)
  crashes_sending_so x progress old new batch k k' ended left has (inr (is, stays, failed)) (inr (inl out)) =
      inr (crash_as_it_was (studio_after x (TakesLines batch)) left
      (out ∙ sym (takes_so x progress old batch has).file))
  crashes_sending_so x progress old new batch k k' ended left has (inr (is, stays, failed)) (inr (inr out)) =
      inr (crash_as_it_was (studio_after x (TakesLines batch)) left
      (out ∙ ap (λ (s : Over). kept_of (taking progress (length batch)) s.sender.server) stays
      ∙ sym (takes_so x progress old batch has).file))

  pub studio_does_lem : StudioDoes opens closes remaining contents saves fails
  studio_does_lem = record {
    delivers = λ x ended before old new marks marks' result same delivers.
        delivers_goes ended before old new marks marks' result delivers x same;
    settles = settles_so;
    tells = tells_so;
    settles_not = settles_not_so;
    crashes = crashes_so;
    takes = takes_so;
    sends = sends_so;
    crashes_sending = crashes_sending_so;
  }

-- ---- the days of an encoder

module _ {V : Type 0} (step : Step V) (taken : Taken V) where
  does_on : (x : Transmitter V) (e1 e' : EncoderState V) (some more : List Deed) (events : List EndEvent)
      → AllByRecursion (λ event. is_at_studio event ≡ false) events
      → run_transmitter step taken x events ≡ record { encoder = e1; deeds = x.deeds ++ some }
      → TransmitterDoes step taken (record { encoder = e1; deeds = x.deeds ++ some }) more e'
      → TransmitterDoes step taken x (some ++ more) e'
  does_on x e1 e' some more events at leads rest = record {
    events = events ++ rest.events;
    at = all_append (λ event. is_at_studio event ≡ false) events rest.events at rest.at;
    leads = both x events ∙ ap (λ (y : Transmitter V). run_transmitter step taken y rest.events) leads ∙ rest.leads
        ∙ ap (λ (ds : List Deed). record { encoder = e'; deeds = ds }) (append_assoc x.deeds some more);
  }
    where
      both : (y : Transmitter V) (xs : List EndEvent)
          → run_transmitter step taken y (xs ++ rest.events)
          ≡ run_transmitter step taken (run_transmitter step taken y xs) rest.events
      both y [] = refl
      both y (event ∷ xs) = both (transmitter_after step taken y event) xs

  -- one day
  record OneDay (x : Transmitter V) (some : List Deed) (e1 : EncoderState V) : Type 0 where
    events : List EndEvent
    at : AllByRecursion (λ event. is_at_studio event ≡ false) events
    leads : run_transmitter step taken x events ≡ record { encoder = e1; deeds = x.deeds ++ some }

  day_so : (x : Transmitter V) (day : DeviceEvent) (some : List Deed) (e1 : EncoderState V)
      → Happens step taken day x.encoder some e1 → OneDay x some e1
  day_so x (DeviceReads came sent) some e1 (took, serves, are, is) = record {
    events = Reads took ∷ [];
    at = (refl, tt);
    leads = ap (λ (ds : List Deed). record { encoder = fed step x.encoder took; deeds = x.deeds ++ ds }) (sym are)
        ∙ ap (λ (d : EncoderState V). record { encoder = d; deeds = x.deeds ++ some }) (sym is);
  }
  day_so x DeviceHangsUp some e1 (are, is) = record {
    events = Leaves ∷ [];
    at = (refl, tt);
    leads = ap (λ (ds : List Deed). record { encoder = record x.encoder { part = Closed }; deeds = ds })
        (sym (append-nil x.deeds) ∙ ap (λ (ds : List Deed). x.deeds ++ ds) (sym are))
        ∙ ap (λ (d : EncoderState V). record { encoder = d; deeds = x.deeds ++ some }) (sym is);
  }
  day_so x (Crashes came sent) some e1 (left, cut, are, is) = record {
    events = Reads cut.taken ∷ EncoderCrashes ∷ [];
    at = (refl, (refl, tt));
    leads = ap (λ (ds : List Deed). record {
      encoder = encoder_going_on (fed step x.encoder cut.taken).address
          (encoder_kept (fed step x.encoder cut.taken));
      deeds = x.deeds ++ ds;
    }) (sym are)
        ∙ ap (λ (d : EncoderState V). record { encoder = d; deeds = x.deeds ++ some })
        (ap (λ (a : ℕ). encoder_going_on a (encoder_kept (fed step x.encoder cut.taken)))
        (fed_lived step taken x.encoder cut.taken).address
        ∙ ap (encoder_going_on x.encoder.address) (sym cut.state) ∙ sym is);
  }
  day_so x TakesGroup some e1 (are, is) = record {
    events = Gives ∷ [];
    at = (refl, tt);
    leads = ap (λ (ds : List Deed). record {
      encoder = record x.encoder { value = (taken x.encoder.value).0 };
      deeds = x.deeds ++ ds;
    }) (sym are)
        ∙ ap (λ (d : EncoderState V). record { encoder = d; deeds = x.deeds ++ some }) (sym is);
  }
  day_so x StartsAgain some e1 (are, is) = record {
    events = EncoderCrashes ∷ [];
    at = (refl, tt);
    leads = ap (λ (ds : List Deed). record {
      encoder = encoder_going_on x.encoder.address (encoder_kept x.encoder);
      deeds = ds;
    }) (sym (append-nil x.deeds) ∙ ap (λ (ds : List Deed). x.deeds ++ ds) (sym are))
        ∙ ap (λ (d : EncoderState V). record { encoder = d; deeds = x.deeds ++ some }) (sym is);
  }

  pub days_lem : DaysAreEndEvents step taken
  days_lem x [] deeds e' (none, is) = record {
    events = [];
    at = tt;
    leads = ap (λ (ds : List Deed). record { encoder = x.encoder; deeds = ds })
        (sym (append-nil x.deeds) ∙ ap (λ (ds : List Deed). x.deeds ++ ds) (sym none))
        ∙ ap (λ (d : EncoderState V). record { encoder = d; deeds = x.deeds ++ deeds }) (sym is);
  }
  days_lem x (day ∷ days) deeds e' (some, more, e1, happens, rest, are) =
      let one = day_so x day some e1 happens in
      subst (λ (ds : List Deed). TransmitterDoes step taken x ds e') (sym are)
      (does_on x e1 e' some more one.events one.at one.leads
      (days_lem (record { encoder = e1; deeds = x.deeds ++ some }) days more e' rest))
