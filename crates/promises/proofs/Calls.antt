-- What a crash leaves of the calls of a run, and what they take.
use Rattle.std.proofs.Common.{arith, ◌≡◌, ℕ, ◌+◌, ◌≤◌, Bool, List, [], length, Option, Ok, Err, refl, sym, ap}
use Rattle.std.proofs.Common.{subst, ◌∙◌, inl, inr}
use Rattle.uecp_link.specs.declared.counts.ServerCounts.{ServerCounts}
use Rattle.uecp_net.specs.declared.sender.Settled.{Settled}
use Rattle.uecp_net.specs.Sending.{SenderOver, submitted_all}
use Rattle.uecp_net.specs.declared.saved.keep.Progress.{Progress}
use Rattle.uecp_net.specs.declared.saved.batch.KeptOutstanding.TheVariants as kept
use Rattle.uecp_net.specs.Keeping.{KeptServer, kept_of, IsKept}
use Rattle.uecp_net.specs.SavedSending.{Ended, SettlesKept, SendsKept, Outlives, OutlivesBatch, StaysKept}
use Rattle.kept_jobs.specs.declared.stop.KeptStop.{KeptStop}
use Rattle.kept_jobs.specs.declared.stop.KeptStop.TheVariants.{StateFailed}
use Rattle.kept_jobs.specs.Stops.{Went, stop_status, stop_for}
use Rattle.kept_jobs.specs.ServerRun.{Standing, SettlesOne, SendsOne}
use Rattle.kept_jobs.proofs.Public.{goes, stopped, goes_not_stopped, same_status, Chain, After, after_none, after_on}
use Rattle.output_forms.specs.declared.form.Form.{Form}
use Rattle.sending.specs.declared.account.Account.TheVariants.{Numbered}
use Rattle.sending.specs.Run.{AnswersTold, SendsBatch, SendsSome, SettlesLive}
use Rattle.promises.proofs.Statuses.{not_so, answers_status}

-- all were acknowledged
abbrev pub IsSettled : Ended → Type 0
IsSettled ended = (settled : Settled) × (ended ≡ Ok settled)

pub answers_settled : (form : Form) (are_told : Settled → List ℕ → Type 0) (counts : ServerCounts) (ended : Ended)
    (held held' : Option (List ℕ)) (went : Went) → AnswersTold (Numbered form) are_told counts ended held held' went
    → goes ≡ went
    → IsSettled ended
answers_settled form are_told counts (Ok settled) held held' went tells on = (settled, refl)
answers_settled form are_told counts (Err (kept.Outstanding reason)) held held' went (same, is) on =
    absurd (goes_not_stopped (stop_for counts reason) (on ∙ is))
answers_settled form are_told counts (Err kept.StateFailed) held held' went (same, is) on =
    absurd (goes_not_stopped StateFailed (on ∙ is))

answers_stop : (form : Form) (are_told : Settled → List ℕ → Type 0) (counts : ServerCounts) (ended : Ended)
    (held held' : Option (List ℕ)) (went : Went) → AnswersTold (Numbered form) are_told counts ended held held' went
    → (stop : KeptStop) → went ≡ stopped stop → stop_status stop ≡ 3
answers_stop form are_told counts ended held held' went tells stop is =
    answers_status form are_told counts ended held held' stop
    (subst (AnswersTold (Numbered form) are_told counts ended held held') is tells)

module _ {C I O K : Type 0} (opens : C → Option (I × O) → C → Type 0) (closes : C → I → O → C → Type 0)
    (remaining : I → Option (List ℕ)) (contents : O → Option (List ℕ)) (leaves : K → KeptServer → Type 0)
    (is_clean : K → Type 0) (saves fails : K → KeptServer → K → Type 0) where
  abbrev pub At : Type 0
  At = Standing (SenderOver C I O) K

  abbrev pub IsKeptAt : At → Type 0
  IsKeptAt x = IsKept (leaves x.keeper) x.progress x.runs.sender.server

  abbrev pub kept_at : At → KeptServer
  kept_at x = kept_of x.progress x.runs.sender.server

  abbrev pub Calls : (most : ℕ) → (kept left : KeptServer) → Type 0
  Calls = Chain opens closes remaining contents leaves is_clean saves fails

  abbrev pub AfterCalls : (most : ℕ) → (x x' : At) → Went → Type 0
  AfterCalls = After opens closes remaining contents leaves is_clean saves fails

  -- calls that take so many messages, and what a crash leaves of them
  pub record Called (taken : ℕ) (x x' : At) (went : Went) : Type 0 where
    pub after : After opens closes remaining contents leaves is_clean saves fails taken x x' went
    pub counted : x'.progress.taken ≡ x.progress.taken + taken
    pub joined : x'.progress.joined ≡ x.progress.joined
    pub idle : goes ≡ went → x.runs.sender.server.held ≡ [] → x'.runs.sender.server.held ≡ []
    pub status : (stop : KeptStop) → went ≡ stopped stop → stop_status stop ≡ 3

  pub called_none : (x : At) (went : Went) → went ≡ goes → Called 0 x x went
  called_none x went is = record {
    after = after_none opens closes remaining contents leaves is_clean saves fails x went;
    counted = omega arith;
    joined = refl;
    idle = λ on idle. idle;
    status = λ stop stops. not_so stop (sym stops ∙ is);
  }

  pub called_on : (m n : ℕ) (x y z : At) (went : Went) → Called m x y goes → Called n y z went
      → Called (m + n) x z went
  called_on m n x y z went one rest = record {
    after = after_on opens closes remaining contents leaves is_clean saves fails m n x y z went one.after rest.after;
    counted = (let a = one.counted in let b = rest.counted in omega (arith, a, b));
    joined = rest.joined ∙ one.joined;
    idle = λ on idle. rest.idle on (one.idle refl idle);
    status = rest.status;
  }

  -- what went well, and stopped behind that
  pub called_stops : (m : ℕ) (x x' : At) (stop : KeptStop) → stop_status stop ≡ 3 → Called m x x' goes
      → Called m x x' (stopped stop)
  called_stops m x x' stop three one = record {
    after = record {
      clean = one.after.clean;
      settled = λ on. absurd (goes_not_stopped stop on);
      whole = one.after.whole;
      outlives = one.after.outlives;
    };
    counted = one.counted;
    joined = one.joined;
    idle = λ on. absurd (goes_not_stopped stop on);
    status = λ other is. same_status other stop three (sym is);
  }

  stays_kept : (x' : At) (ended : Ended) → IsSettled ended
      → StaysKept (leaves x'.keeper) x'.progress x'.runs.sender.server ended → IsKeptAt x'
  stays_kept x' ended (settled, is) stays =
      subst (λ e. StaysKept (leaves x'.keeper) x'.progress x'.runs.sender.server e) is stays

  -- ---- What waited is settled.

  settled_idle : (ended : Ended) (x x' : At)
      → SettlesOne opens closes remaining contents leaves is_clean saves fails ended x x' → IsSettled ended
      → x'.runs.sender.server.held ≡ []
  settled_idle ended x x' one (settled, is) =
      by (subst (λ e. SettlesKept opens closes remaining contents saves fails x.progress x.runs x'.runs x.keeper
      x'.keeper e) is one.settles)
    where
      by : SettlesKept opens closes remaining contents saves fails x.progress x.runs x'.runs x.keeper x'.keeper
          (Ok settled) → x'.runs.sender.server.held ≡ []
      by (acknowledges, saved) = ap (λ s. s.held) acknowledges.freed

  settled_call : (ended : Ended) (x x' : At)
      → SettlesOne opens closes remaining contents leaves is_clean saves fails ended x x' → (left : KeptServer)
      → Outlives x.progress x.runs.sender.server x'.runs.sender.server left → Calls 0 (kept_at x) left
  settled_call ended x x' one left out = record {
    calls = 1;
    lives = (
      left,
      inr (record {
        progress = x.progress;
        old = x.runs;
        new = x'.runs;
        keeper = x.keeper;
        keeper' = x'.keeper;
        ended = ended;
        is_kept = refl;
        settles = one.settles;
        outlives = out;
      }),
      refl,
    );
    more = 0;
    taken = (let same = by out in omega (arith, same));
    within = omega arith;
  }
    where
      by : Outlives x.progress x.runs.sender.server x'.runs.sender.server left → left.taken ≡ x.progress.taken
      by (inl is) = ap (λ (k : KeptServer). k.taken) is
      by (inr is) = ap (λ (k : KeptServer). k.taken) is

  pub settles_call : (form : Form) (x x' : At) (applied applied' : Bool) (unknown unknown' : ℕ) (went : Went)
      → SettlesLive opens closes remaining contents leaves is_clean saves fails (Numbered form) x x' applied applied'
      unknown
      unknown'
      went → Called 0 x x' went
  settles_call form x x' applied applied' unknown unknown' went (inl (idle, same, apply, are, is)) =
      subst (λ y. Called 0 x y went) (sym same) (called_none x went is)
  settles_call form x x' applied applied' unknown unknown' went (inr (some, (ended, one, tells, apply, are))) =
      let settled_so : goes ≡ went → IsSettled ended =
      answers_settled form _ x'.runs.sender.server.counts ended x.held x'.held went tells in
      record {
        after = record {
          clean = one.clean;
          settled = λ on settled clean. stays_kept x' ended (settled_so on) (one.settled clean);
          whole = settled_call ended x x' one (kept_at x')
              (inr (ap (λ p. kept_of p x'.runs.sender.server) one.progress));
          outlives = λ settled clean left leaves_it.
              settled_call ended x x' one left (one.outlives settled clean left leaves_it);
        };
        counted = (let same = ap (λ (p : Progress). p.taken) one.progress in omega (arith, same));
        joined = ap (λ (p : Progress). p.joined) one.progress;
        idle = λ on idle. settled_idle ended x x' one (settled_so on);
        status = answers_stop form _ x'.runs.sender.server.counts ended x.held x'.held went
            tells;
      }

  -- none waits any longer
  pub settles_idle : (form : Form) (x x' : At) (applied applied' : Bool) (unknown unknown' : ℕ) (went : Went)
      → SettlesLive opens closes remaining contents leaves is_clean saves fails (Numbered form) x x' applied applied'
      unknown
      unknown'
      went → goes ≡ went → x'.runs.sender.server.held ≡ []
  settles_idle form x x' applied applied' unknown unknown' went (inl (idle, same, apply, are, is)) on =
      subst (λ (y : At). y.runs.sender.server.held ≡ []) (sym same) idle
  settles_idle form x x' applied applied' unknown unknown' went (inr (some, (ended, one, tells, apply, are))) on =
      settled_idle ended x x' one
      (answers_settled form _ x'.runs.sender.server.counts ended x.held x'.held went tells on)

  -- ---- A batch is sent.

  sent_idle : (batch : List (List ℕ)) (ended : Ended) (x x' : At)
      → SendsOne opens closes remaining contents leaves is_clean saves fails batch ended x x' → IsSettled ended
      → x'.runs.sender.server.held ≡ []
  sent_idle batch ended x x' one (settled, is) =
      by (subst (λ e. SendsKept opens closes remaining contents saves fails x'.progress (submitted_all x.runs batch)
      x'.runs x.keeper x'.keeper e) is one.sends)
    where
      by : SendsKept opens closes remaining contents saves fails x'.progress (submitted_all x.runs batch) x'.runs
          x.keeper x'.keeper (Ok settled) → x'.runs.sender.server.held ≡ []
      by (inl (between, saved, (acknowledges, again))) = ap (λ s. s.held) acknowledges.freed
      by (inr (is, same, failed)) = absurd (let no : Ok settled ≡ Err kept.StateFailed = is in cc)

  sent_call : (batch : List (List ℕ)) (ended : Ended) (x x' : At)
      → SendsOne opens closes remaining contents leaves is_clean saves fails batch ended x x' → (left : KeptServer)
      → OutlivesBatch x.progress x'.progress x.runs (submitted_all x.runs batch) x'.runs left
      → Calls (length batch) (kept_at x) left
  sent_call batch ended x x' one left out = record {
    calls = 1;
    lives = (
      left,
      inl (record {
        before = x.progress;
        old = x.runs;
        new = x'.runs;
        batch = batch;
        keeper = x.keeper;
        keeper' = x'.keeper;
        ended = ended;
        is_kept = refl;
        sends = subst (λ p. SendsKept opens closes remaining contents saves fails p (submitted_all x.runs batch) x'.runs
            x.keeper x'.keeper ended) one.progress one.sends;
        outlives = subst (λ p. OutlivesBatch x.progress p x.runs (submitted_all x.runs batch) x'.runs left) one.progress
            out;
      }),
      refl,
    );
    more = (by out).0;
    taken = (by out).1;
    within = (by out).2;
  }
    where
      counted : x'.progress.taken ≡ x.progress.taken + length batch
      counted = ap (λ p. p.taken) one.progress

      by : OutlivesBatch x.progress x'.progress x.runs (submitted_all x.runs batch) x'.runs left
          → (more : ℕ) × (left.taken ≡ x.progress.taken + more) × (more ≤ length batch)
      by (inl (is, unsent)) =
          (0, (let same = ap (λ (k : KeptServer). k.taken) is in omega (arith, same)), omega arith)
      by (inr (inl is)) = (length batch, ap (λ (k : KeptServer). k.taken) is ∙ counted, omega arith)
      by (inr (inr is)) = (length batch, ap (λ (k : KeptServer). k.taken) is ∙ counted, omega arith)

  sends_call : (form : Form) (batch : List (List ℕ)) (x x' : At) (applied applied' : Bool) (unknown' : ℕ) (went : Went)
      → SendsBatch opens closes remaining contents leaves is_clean saves fails (Numbered form) batch x x' applied
      applied' unknown'
      went
      → Called (length batch) x x' went
  sends_call form batch x x' applied applied' unknown' went (ended, one, tells, apply, are) =
      let settled_so : goes ≡ went → IsSettled ended =
      answers_settled form _ x'.runs.sender.server.counts ended x.held x'.held went tells in
      record {
        after = record {
          clean = one.clean;
          settled = λ on settled clean. stays_kept x' ended (settled_so on) (one.settled clean);
          whole = sent_call batch ended x x' one (kept_at x') (inr (inr refl));
          outlives = λ settled clean left leaves_it.
              sent_call batch ended x x' one left (one.outlives settled clean left leaves_it);
        };
        counted = ap (λ (p : Progress). p.taken) one.progress;
        joined = ap (λ (p : Progress). p.joined) one.progress;
        idle = λ on idle. sent_idle batch ended x x' one (settled_so on);
        status = answers_stop form _ x'.runs.sender.server.counts ended x.held x'.held went tells;
      }

  pub sends_some : (form : Form) (batch : List (List ℕ)) (x x' : At) (applied applied' : Bool) (unknown unknown' : ℕ)
      (went : Went)
      → SendsSome opens closes remaining contents leaves is_clean saves fails (Numbered form) batch x x' applied
      applied' unknown
      unknown' went → Called (length batch) x x' went
  sends_some form batch x x' applied applied' unknown unknown' went (inl (none, same, apply, are, is)) =
      subst (λ ms. Called (length ms) x x' went) (sym none)
      (subst (λ y. Called 0 x y went) (sym same) (called_none x went is))
  sends_some form batch x x' applied applied' unknown unknown' went (inr (some, sends)) =
      sends_call form batch x x' applied applied' unknown' went sends
