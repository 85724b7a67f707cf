-- A run at the studio is events of its end.
use Rattle.std.proofs.Common.{◌≡◌, ℕ, zero, suc, Bool, true, false, List, [], ◌∷◌, ◌++◌, length, Option, Some, None, Ok}
use Rattle.std.proofs.Common.{Err, refl, ap, sym, subst, ◌∙◌, inl, inr, ◌⊎◌, append_assoc, append-nil}
use Rattle.uecp_elements.specs.declared.code.Code.{Code}
use Rattle.uecp_frame.specs.Findings.{Finding}
use Rattle.uecp_frame.specs.Beyond.{found_beyond, open_beyond}
use Rattle.uecp_link.specs.Server.{ServerState, acknowledges, freed, heard, heard_finding, heard_findings}
use Rattle.uecp_net.specs.declared.saved.keep.Progress.{Progress}
use Rattle.uecp_net.specs.Sending.{SenderOver, submitted_all}
use Rattle.uecp_net.specs.Keeping.{KeptServer, IsKept, kept_of, going_on, taking}
use Rattle.uecp_net.specs.SavedSending.{Ended, SettlesKept, SendsKept, OutlivesBatch, StaysKept}
use Rattle.kept_jobs.specs.Stops.{Went}
use Rattle.kept_jobs.specs.ServerRun.{Standing}
use Rattle.kept_jobs.proofs.Public.{goes, stopped}
use Rattle.line_batches.specs.declared.taking.After.{After}
use Rattle.line_batches.specs.declared.taking.After.TheVariants.{GoesOn, Ends}
use Rattle.output_forms.specs.declared.form.Form.{Form}
use Rattle.sending.specs.declared.account.Account.TheVariants.{Numbered}
use Rattle.sending.specs.declared.options.LiveOptions.{LiveOptions}
use Rattle.sending.specs.Run.{Live, Turn, GoesOnFor, RunsTurns, RunsOn, SettlesOnce, SettlesLive, SendsSome, SendsBatch}
use Rattle.sending.specs.Run.{run_of}
use Rattle.promises.specs.Taken.{AreBatches}
use Rattle.promises.specs.Ends.{Studio, EndEvent, SaysStation, TakesLines, Dials, Writes, Hears, Tells, StudioCrashes}
use Rattle.promises.specs.Ends.{Reads, Leaves}
use Rattle.promises.specs.Ends.{EncoderCrashes, Gives, Stranger, is_at_studio, studio_after, run_studio}
use Rattle.promises.specs.Doings.{HasServer, SettlesAs, CrashesAs, RunsAs, RunsAreEvents}
use Rattle.promises.specs.Doings.{StudioDoes, lines_of}
use Rattle.promises.proofs.AtStudio.{submitted_address}
use Rattle.promises.proofs.BatchRuns.{batches_on}
use Rattle.promises.proofs.Calls.{IsSettled, answers_settled}
use Rattle.promises.proofs.EndLists.{all_append}
use Rattle.promises.proofs.Doings.{runs_on, all_at, studio_does_lem}

lines_on : (a b : List (List (List ℕ))) → lines_of (a ++ b) ≡ lines_of a ++ lines_of b
lines_on [] b = refl
lines_on (batch ∷ a) b =
    ap (λ (l : List (List ℕ)). batch ++ l) (lines_on a b) ∙ sym (append_assoc batch (lines_of a) (lines_of b))

-- ---- the address stays

freed_at : (s : ServerState) (reply : Option (ℕ × Code)) → (freed s reply).address ≡ s.address
freed_at s None = refl
freed_at s (Some reply) = refl

findings_at : (s : ServerState) (fs : List Finding) → (heard_findings s fs).address ≡ s.address
findings_at s [] = refl
findings_at s (Err fault ∷ fs) = findings_at (heard_finding s (Err fault)) fs
findings_at s (Ok f ∷ fs) = findings_at (heard_finding s (Ok f)) fs ∙ freed_at s (acknowledges s f)

pub heard_at : (s : ServerState) (bytes : List ℕ) → (heard s bytes).address ≡ s.address
heard_at s bytes =
    findings_at (record s { part = open_beyond s.part bytes }) (found_beyond s.part bytes)

event_at : (x : Studio) (event : EndEvent) → (studio_after x event).server.address ≡ x.server.address
event_at x (SaysStation ms) = submitted_address x.server ms
event_at x (TakesLines ms) = submitted_address x.server ms
event_at x Dials = refl
event_at x Writes = refl
event_at x (Hears bytes) = heard_at x.server bytes
event_at x Tells = refl
event_at x (StudioCrashes false) = refl
event_at x (StudioCrashes true) = refl
event_at x (Reads bytes) = refl
event_at x Leaves = refl
event_at x EncoderCrashes = refl
event_at x Gives = refl
event_at x (Stranger bytes) = refl

events_at : (x : Studio) (events : List EndEvent) → (run_studio x events).server.address ≡ x.server.address
events_at x [] = refl
events_at x (event ∷ events) = events_at (studio_after x event) events ∙ event_at x event

-- ---- runs

-- nothing was done
run_none : (x : Studio) → RunsAs x [] x.server x.file
run_none x = record {
  events = [];
  at = tt;
  server_is = refl;
  file_is = refl;
  sent = sym (append-nil x.sent);
}

-- one run behind another
run_on : (x : Studio) (a b : List (List ℕ)) (server server' : ServerState) (file file' : KeptServer)
    (first : RunsAs x a server file) → RunsAs (run_studio x first.events) b server' file'
    → RunsAs x (a ++ b) server' file'
run_on x a b server server' file file' first more = record {
  events = first.events ++ more.events;
  at = all_append (λ event. is_at_studio event ≡ true) first.events more.events first.at more.at;
  server_is = ap (λ (y : Studio). y.server) (runs_on x first.events more.events) ∙ more.server_is;
  file_is = ap (λ (y : Studio). y.file) (runs_on x first.events more.events) ∙ more.file_is;
  sent = ap (λ (y : Studio). y.sent) (runs_on x first.events more.events) ∙ more.sent
      ∙ ap (λ (l : List (List ℕ)). l ++ b) first.sent ∙ append_assoc x.sent a b;
}

module _ {T C I O K : Type 0} (takes : (size : ℕ) → List (List ℕ) → After → T → T → Type 0)
    (opens : C → Option (I × O) → C → Type 0) (closes : C → I → O → C → Type 0)
    (remaining : I → Option (List ℕ)) (contents : O → Option (List ℕ)) (leaves : K → KeptServer → Type 0)
    (is_clean : K → Type 0) (saves fails : K → KeptServer → K → Type 0) where
  abbrev At : Type 0
  At = Standing (SenderOver C I O) K

  abbrev Has : Studio → At → Type 0
  Has u x = HasServer opens closes remaining contents saves fails u x.progress x.runs

  abbrev kept_at : At → KeptServer
  kept_at x = kept_of x.progress x.runs.sender.server

  abbrev IsKeptAt : At → Type 0
  IsKeptAt x = IsKept (leaves x.keeper) x.progress x.runs.sender.server

  -- what a crash leaves, with some first of these lines taken
  abbrev Cuts : Studio → (lines : List (List ℕ)) → KeptServer → Type 0
  Cuts u lines left = (some : List (List ℕ)) × (more : List (List ℕ)) × (lines ≡ some ++ more)
      × RunsAs u some (going_on u.server.address left) left

  -- from one place to the next, with these lines taken
  record Goes (lines : List (List ℕ)) (x x' : At) (went : Went) : Type 0 where
    done : (u : Studio) → Has u x → went ≡ goes → RunsAs u lines x'.runs.sender.server (kept_at x')
    cuts : (u : Studio) → Has u x → IsKeptAt x → is_clean x'.keeper → (left : KeptServer) → leaves x'.keeper left
        → Cuts u lines left
    kept : went ≡ goes → IsKeptAt x → is_clean x'.keeper → IsKeptAt x'
    clean : is_clean x'.keeper → is_clean x.keeper

  as_server : (u : Studio) (lines : List (List ℕ)) (s s' : ServerState) (f f' : KeptServer) → s ≡ s' → f ≡ f'
      → RunsAs u lines s f → RunsAs u lines s' f'
  as_server u lines s s' f f' server file r = record {
    events = r.events;
    at = r.at;
    server_is = r.server_is ∙ server;
    file_is = r.file_is ∙ file;
    sent = r.sent;
  }

  -- a crash of one settling
  cut_of : (u : Studio) (left : KeptServer) → CrashesAs u left → RunsAs u [] (going_on u.server.address left) left
  cut_of u left c = record {
    events = c.over ++ StudioCrashes c.saved ∷ [];
    at = all_append (λ event. is_at_studio event ≡ true) c.over (StudioCrashes c.saved ∷ []) (all_at c.over c.on)
        (refl, tt);
    server_is = ap (λ (y : Studio). y.server) c.leads;
    file_is = ap (λ (y : Studio). y.file) c.leads;
    sent = ap (λ (y : Studio). y.sent) c.leads ∙ sym (append-nil u.sent);
  }

  settled_as : (u : Studio) (server : ServerState) (file : KeptServer) (marks : _) → SettlesAs u server file marks
      → RunsAs u [] server file
  settled_as u server file marks s = record {
    events = s.over ++ Tells ∷ [];
    at = all_append (λ event. is_at_studio event ≡ true) s.over (Tells ∷ []) (all_at s.over s.on) (refl, tt);
    server_is = ap (λ (y : Studio). y.server) s.leads;
    file_is = ap (λ (y : Studio). y.file) s.leads;
    sent = ap (λ (y : Studio). y.sent) s.leads ∙ sym (append-nil u.sent);
  }

  goes_none : (x : At) (went : Went) → Goes [] x x went
  goes_none x went = record {
    done = λ u has on. as_server u [] u.server x.runs.sender.server u.file (kept_at x) has.server has.file (run_none u);
    cuts = λ u has kept clean left leaves_it. ([], [], refl, cut_as_it_was u has left (kept left leaves_it));
    kept = λ on kept clean. kept;
    clean = λ clean. clean;
  }
    where
      cut_as_it_was : (u : Studio) → Has u x → (left : KeptServer) → left ≡ kept_at x
          → RunsAs u [] (going_on u.server.address left) left
      cut_as_it_was u has left is =
          let same : u.file ≡ left = has.file ∙ sym is in
          record {
            events = StudioCrashes false ∷ [];
            at = (refl, tt);
            server_is = ap (going_on u.server.address) same;
            file_is = same;
            sent = sym (append-nil u.sent);
          }

  goes_on : (a b : List (List ℕ)) (x y z : At) (went : Went) → Goes a x y goes → Goes b y z went
      → Goes (a ++ b) x z went
  goes_on a b x y z went one two = record {
    done = λ u has on.
        let first = one.done u has refl in
        run_on u a b y.runs.sender.server z.runs.sender.server (kept_at y) (kept_at z) first
        (two.done (run_studio u first.events) (record { server = first.server_is; file = first.file_is }) on);
    cuts = λ u has kept clean left leaves_it.
        let first = one.done u has refl in
        let v : Studio = run_studio u first.events in
        let (some, more, are, cut) =
        two.cuts v (record { server = first.server_is; file = first.file_is }) (one.kept refl kept (two.clean clean))
        clean left leaves_it in (
          a ++ some,
          more,
          ap (λ (l : List (List ℕ)). a ++ l) are ∙ sym (append_assoc a some more),
          as_server u (a ++ some) (going_on v.server.address left) (going_on u.server.address left) left left
              (ap (λ (n : ℕ). going_on n left) (events_at u first.events)) refl
              (run_on u a some y.runs.sender.server (going_on v.server.address left) (kept_at y) left first cut),
        );
    kept = λ on kept clean. two.kept on (one.kept refl kept (two.clean clean)) clean;
    clean = λ clean. one.clean (two.clean clean);
  }

  goes_any : (lines : List (List ℕ)) (x x' : At) (went : Went) → Goes lines x x' goes → Goes lines x x' went
  goes_any lines x x' went one = record {
    done = λ u has on. one.done u has refl;
    cuts = one.cuts;
    kept = λ on. one.kept refl;
    clean = one.clean;
  }

  does : StudioDoes opens closes remaining contents saves fails
  does = studio_does_lem opens closes remaining contents saves fails

  stays : (x' : At) (ended : Ended) → IsSettled ended
      → StaysKept (leaves x'.keeper) x'.progress x'.runs.sender.server ended → IsKeptAt x'
  stays x' ended (settled, is) so =
      subst (λ (e : Ended). StaysKept (leaves x'.keeper) x'.progress x'.runs.sender.server e) is so

  -- ---- What waits is settled.

  settles_goes : (form : Form) (x x' : At) (applied applied' : Bool) (unknown unknown' : ℕ) (went : Went)
      → SettlesLive opens closes remaining contents leaves is_clean saves fails (Numbered form) x x' applied applied'
      unknown unknown' went
      → Goes [] x x' went
  settles_goes form x x' applied applied' unknown unknown' went (inl (idle, same, apply, are, is)) =
      subst (λ (y : At). Goes [] x y went) (sym same) (goes_none x went)
  settles_goes form x x' applied applied' unknown unknown' went (inr (some, (ended, one, tells, apply, are))) =
      let settled_so : went ≡ goes → IsSettled ended = λ on.
      answers_settled form _ x'.runs.sender.server.counts ended x.held x'.held went tells (sym on) in
      record {
        done = λ u has on.
            let (settled, is) = settled_so on in
            let (marks, so, told) = does.settles u x.progress x.runs x'.runs x.keeper x'.keeper settled has
            (subst (λ (e : Ended). SettlesKept opens closes remaining contents saves fails x.progress x.runs x'.runs
            x.keeper x'.keeper e) is one.settles) in
            as_server u [] x'.runs.sender.server x'.runs.sender.server (kept_of x.progress x'.runs.sender.server)
            (kept_at x') refl (ap (λ (p : Progress). kept_of p x'.runs.sender.server) (sym one.progress))
            (settled_as u x'.runs.sender.server (kept_of x.progress x'.runs.sender.server) marks so);
        cuts = λ u has kept clean left leaves_it. (
          [],
          [],
          refl,
          cut_of u left (does.crashes u x.progress x.runs x'.runs x.keeper x'.keeper ended left has one.settles
              (one.outlives kept clean left leaves_it)),
        );
        kept = λ on kept clean. stays x' ended (settled_so on) (one.settled clean);
        clean = one.clean;
      }

  -- ---- A batch is sent.

  took : (u : Studio) (batch : List (List ℕ)) (server : ServerState) (file : KeptServer)
      → RunsAs (studio_after u (TakesLines batch)) [] server file → RunsAs u batch server file
  took u batch server file r = record {
    events = TakesLines batch ∷ r.events;
    at = (refl, r.at);
    server_is = r.server_is;
    file_is = r.file_is;
    sent = r.sent ∙ append-nil (u.sent ++ batch);
  }

  sends_goes : (form : Form) (batch : List (List ℕ)) (x x' : At) (applied applied' : Bool) (unknown' : ℕ) (went : Went)
      → SendsBatch opens closes remaining contents leaves is_clean saves fails (Numbered form) batch x x' applied
      applied' unknown' went
      → Goes batch x x' went
  sends_goes form batch x x' applied applied' unknown' went (ended, one, tells, apply, are) =
      let settled_so : went ≡ goes → IsSettled ended = λ on.
      answers_settled form _ x'.runs.sender.server.counts ended x.held x'.held went tells (sym on) in
      record {
        done = λ u has on.
            let (settled, is) = settled_so on in
            let v : Studio = studio_after u (TakesLines batch) in
            let p : Progress = taking x.progress (length batch) in
            let (between, settles) = does.sends p (submitted_all x.runs batch) x'.runs x.keeper x'.keeper settled
            (subst (λ (q : Progress). SendsKept opens closes remaining contents saves fails q
            (submitted_all x.runs batch) x'.runs x.keeper x'.keeper (Ok settled)) one.progress
            (subst (λ (e : Ended). SendsKept opens closes remaining contents saves fails x'.progress
            (submitted_all x.runs batch) x'.runs x.keeper x'.keeper e) is one.sends)) in
            let (marks, so, told) = does.settles v p (submitted_all x.runs batch) x'.runs between x'.keeper settled
            (does.takes u x.progress x.runs batch has) settles in
            took u batch x'.runs.sender.server (kept_at x')
            (as_server v [] x'.runs.sender.server x'.runs.sender.server (kept_of p x'.runs.sender.server)
            (kept_at x') refl (ap (λ (q : Progress). kept_of q x'.runs.sender.server) (sym one.progress))
            (settled_as v x'.runs.sender.server (kept_of p x'.runs.sender.server) marks so));
        cuts = λ u has kept clean left leaves_it.
            cut_in u left (does.crashes_sending u x.progress x.runs x'.runs batch x.keeper x'.keeper ended left has
            (subst (λ (q : Progress). SendsKept opens closes remaining contents saves fails q
            (submitted_all x.runs batch) x'.runs x.keeper x'.keeper ended) one.progress one.sends)
            (subst (λ (q : Progress). OutlivesBatch x.progress q x.runs (submitted_all x.runs batch) x'.runs left)
            one.progress (one.outlives kept clean left leaves_it)));
        kept = λ on kept clean. stays x' ended (settled_so on) (one.settled clean);
        clean = one.clean;
      }
    where
      cut_in : (u : Studio) (left : KeptServer)
          → (CrashesAs u left ⊎ CrashesAs (studio_after u (TakesLines batch)) left) → Cuts u batch left
      cut_in u left (inl c) = ([], batch, refl, cut_of u left c)
      cut_in u left (inr c) =
          let v : Studio = studio_after u (TakesLines batch) in (
            batch,
            [],
            sym (append-nil batch),
            took u batch (going_on u.server.address left) left
                (as_server v [] (going_on v.server.address left) (going_on u.server.address left) left left
                (ap (λ (n : ℕ). going_on n left) (submitted_address u.server batch)) refl (cut_of v left c)),
          )

  some_goes : (form : Form) (batch : List (List ℕ)) (x x' : At) (applied applied' : Bool) (unknown unknown' : ℕ)
      (went : Went)
      → SendsSome opens closes remaining contents leaves is_clean saves fails (Numbered form) batch x x' applied
      applied' unknown unknown' went
      → Goes batch x x' went
  some_goes form batch x x' applied applied' unknown unknown' went (inl (none, same, apply, are, is)) =
      subst (λ (ms : List (List ℕ)). Goes ms x x' went) (sym none)
      (subst (λ (y : At). Goes [] x y went) (sym same) (goes_none x went))
  some_goes form batch x x' applied applied' unknown unknown' went (inr (some, sends)) =
      sends_goes form batch x x' applied applied' unknown' went sends

  -- ---- Batches one after another.

  abbrev Turning : Type 0
  Turning = Live T (SenderOver C I O) K

  module _ (options : LiveOptions) where
    record Ran (x x' : Turning) (went : Went) : Type 0 where
      batches : List (List (List ℕ))
      are : AreBatches (takes options.reading.size) batches x.takes x'.takes
      goes_so : Goes (lines_of batches) x.sends x'.sends went

    ran_on : (x y z : Turning) (went : Went) → Ran x y goes → Ran y z went → Ran x z went
    ran_on x y z went one two = record {
      batches = one.batches ++ two.batches;
      are = batches_on (takes options.reading.size) one.batches two.batches x.takes y.takes z.takes one.are two.are;
      goes_so = subst (λ (ls : List (List ℕ)). Goes ls x.sends z.sends went)
          (sym (lines_on one.batches two.batches))
          (goes_on (lines_of one.batches) (lines_of two.batches) x.sends y.sends z.sends went one.goes_so two.goes_so);
    }

    ran_none : (x : Turning) (went : Went) → Ran x x went
    ran_none x went = record { batches = []; are = refl; goes_so = goes_none x.sends went }

    ran_any : (x x' : Turning) (went : Went) → Ran x x' goes → Ran x x' went
    ran_any x x' went r = record {
      batches = r.batches;
      are = r.are;
      goes_so = goes_any (lines_of r.batches) x.sends x'.sends went r.goes_so;
    }

    ran_turn : (x x' : Turning) (after : After) (went : Went)
        → Turn (takes options.reading.size) opens closes remaining contents leaves is_clean saves fails
        (Numbered options.form) x x' after went
        → Ran x x' went
    ran_turn x x' after went turn = record {
      batches = turn.messages ∷ [];
      are = (after, x'.takes, turn.taken, refl);
      goes_so = subst (λ (ls : List (List ℕ)). Goes ls x.sends x'.sends went) (sym (append-nil turn.messages))
          (some_goes options.form turn.messages x.sends x'.sends x.applied x'.applied x.unknown x'.unknown went
          turn.sends);
    }

    ran_for : (n : ℕ) (x x' : Turning)
        → GoesOnFor (takes options.reading.size) opens closes remaining contents leaves is_clean saves fails
        (Numbered options.form) n x x'
        → Ran x x' goes
    ran_for zero x x' same = subst (λ (y : Turning). Ran x y goes) (sym same) (ran_none x goes)
    ran_for (suc n) x x' (y, before, turn) =
        ran_on x y x' goes (ran_for n x y before) (ran_turn y x' GoesOn goes turn)

    ran_turns : (x x' : Turning) (went : Went)
        → RunsTurns (takes options.reading.size) opens closes remaining contents leaves is_clean saves fails
        (Numbered options.form) x x' went
        → Ran x x' went
    ran_turns x x' went (n, y, before, inl (inl (end, turn, is))) =
        ran_on x y x' went (ran_for n x y before) (ran_any y x' went (ran_turn y x' (Ends end) goes turn))
    ran_turns x x' went (n, y, before, inl (inr (after, stop, turn, is))) =
        ran_on x y x' went (ran_for n x y before)
        (subst (λ (w : Went). Ran y x' w) (sym is) (ran_turn y x' after (stopped stop) turn))
    ran_turns x x' went (n, y, before, inr (all, same, is)) =
        ran_on x y x' went (ran_for n x y before)
        (subst (λ (z : Turning). Ran y z went) (sym same) (ran_none y went))

    ran_settled : (x x' : Turning) (went : Went)
        → SettlesOnce opens closes remaining contents leaves is_clean saves fails (run_of options) x x' went
        → Ran x x' went
    ran_settled x x' went (settles, same, behind) = record {
      batches = [];
      are = same;
      goes_so = settles_goes options.form x.sends x'.sends x.applied x'.applied x.unknown x'.unknown went settles;
    }

    ran : (x x' : Turning) (went : Went)
        → RunsOn takes opens closes remaining contents leaves is_clean saves fails (run_of options) GoesOn x x' went
        → Ran x x' went
    ran x x' went (inl (y, settles, turns)) =
        ran_on x y x' went (ran_settled x y goes settles) (ran_turns y x' went turns)
    ran x x' went (inr (stop, settles, is)) =
        subst (λ (w : Went). Ran x x' w) (sym is) (ran_settled x x' (stopped stop) settles)

  pub runs_lem : RunsAreEvents takes opens closes remaining contents leaves is_clean saves fails
  runs_lem options u x x' went server file runs =
      let r = ran options x x' went runs in
      let has : Has u x.sends = record { server = server; file = file } in
      record {
        batches = r.batches;
        are = r.are;
        done = λ on. r.goes_so.done u has on;
        crashes = λ kept clean left leaves_it. r.goes_so.cuts u has kept clean left leaves_it;
      }
