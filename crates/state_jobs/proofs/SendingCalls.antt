-- What a crash leaves of what a sender does with messages that are all there.
use Rattle.std.proofs.Common.{arith, ◌≡◌, ℕ, zero, suc, ◌+◌, ◌≤◌, List, length, take, drop, Option}
use Rattle.std.proofs.Common.{Ok, Err, refl, sym, ap, subst, ◌∙◌, inl, inr}
use Rattle.std.proofs.lemmas.List.{length-take, length-drop}
use Rattle.uecp_net.specs.Sending.{SenderOver, submitted_all}
use Rattle.uecp_net.specs.declared.saved.batch.KeptOutstanding.TheVariants as kept
use Rattle.uecp_net.specs.Keeping.{KeptServer, kept_of, IsKept}
use Rattle.uecp_net.specs.SavedSending.{Ended, SendsKept, Outlives, OutlivesBatch, StaysKept}
use Rattle.uecp_net.specs.Laws.{Lives}
use Rattle.kept_jobs.specs.declared.stop.KeptStop.{KeptStop}
use Rattle.kept_jobs.specs.declared.stop.KeptStop.TheVariants.{StateFailed}
use Rattle.kept_jobs.specs.Stops.{Went}
use Rattle.kept_jobs.specs.ServerRun.{Standing, SettlesOne, SendsOne}
use Rattle.state_jobs.proofs.Steps.{SettlesFirst, SendsTold, SendsOut, SettledTold}
use Rattle.kept_jobs.proofs.Public.{goes, stopped, goes_not_stopped}
use Rattle.kept_jobs.proofs.Public as calls

module _ {C I O K : Type 0} (opens : C → Option (I × O) → C → Type 0) (closes : C → I → O → C → Type 0)
    (remaining : I → Option (List ℕ)) (contents : O → Option (List ℕ)) (leaves : K → KeptServer → Type 0)
    (is_clean : K → Type 0) (saves fails : K → KeptServer → K → Type 0) where
  abbrev At : Type 0
  At = Standing (SenderOver C I O) K

  abbrev IsKeptAt : At → Type 0
  IsKeptAt x = IsKept (leaves x.keeper) x.progress x.runs.sender.server

  abbrev kept_at : At → KeptServer
  kept_at x = kept_of x.progress x.runs.sender.server

  abbrev Chain : (most : ℕ) → (kept left : KeptServer) → Type 0
  Chain = calls.Chain opens closes remaining contents leaves is_clean saves fails

  abbrev After : (most : ℕ) → (x x' : At) → Went → Type 0
  After = calls.After opens closes remaining contents leaves is_clean saves fails

  told_stays : (ended : Ended) (x' : At) (held held' : Option (List ℕ)) (went : Went)
      → SettledTold x'.runs.sender.server.counts ended held held' went → goes ≡ went
      → StaysKept (leaves x'.keeper) x'.progress x'.runs.sender.server ended → IsKeptAt x'
  told_stays (Ok settled) x' held held' went tells is stays = stays
  told_stays (Err (kept.Outstanding reason)) x' held held' went tells is stays = stays
  told_stays (Err kept.StateFailed) x' held held' went (same, failed) is stays =
      absurd (goes_not_stopped StateFailed (is ∙ failed))

  settled_call : (ended : Ended) (x x' : At)
      → SettlesOne opens closes remaining contents leaves is_clean saves fails ended x x' → (left : KeptServer)
      → Outlives x.progress x.runs.sender.server x'.runs.sender.server left → Chain 0 (kept_at x) left
  settled_call ended x x' one left out = record {
    calls = 1;
    lives = (
      left,
      inr (record {
        progress = x.progress;
        old = x.runs;
        new = x'.runs;
        keeper = x.keeper;
        keeper' = x'.keeper;
        ended = ended;
        is_kept = refl;
        settles = one.settles;
        outlives = out;
      }),
      refl,
    );
    more = 0;
    taken = (let same = by out in omega (arith, same));
    within = omega arith;
  }
    where
      by : Outlives x.progress x.runs.sender.server x'.runs.sender.server left → left.taken ≡ x.progress.taken
      by (inl is) = ap (λ (k : KeptServer). k.taken) is
      by (inr is) = ap (λ (k : KeptServer). k.taken) is

  after_settling : (x x' : At) (went : Went) (ended : Ended)
      → SettlesOne opens closes remaining contents leaves is_clean saves fails ended x x'
      → SettledTold x'.runs.sender.server.counts ended x.held x'.held went → After 0 x x' went
  after_settling x x' went ended one tells = record {
    clean = one.clean;
    settled = λ is settled clean. told_stays ended x' x.held x'.held went tells is (one.settled clean);
    whole = settled_call ended x x' one (kept_at x')
        (inr (ap (λ p. kept_of p x'.runs.sender.server) one.progress));
    outlives = λ settled clean left leaves_it.
        settled_call ended x x' one left (one.outlives settled clean left leaves_it);
  }

  pub after_settling_first : (x x' : At) (went : Went)
      → SettlesFirst opens closes remaining contents leaves is_clean saves fails x x' went → After 0 x x' went
  after_settling_first x x' went (inl (idle, same, is)) =
      subst (λ y. After 0 x y went) (sym same) (calls.after_none opens closes remaining contents leaves is_clean saves
      fails x went)
  after_settling_first x x' went (inr (some, (ended, one, tells))) = after_settling x x' went ended one tells

  sent_call : (batch : List (List ℕ)) (ended : Ended) (x x' : At)
      → SendsOne opens closes remaining contents leaves is_clean saves fails batch ended x x' → (left : KeptServer)
      → OutlivesBatch x.progress x'.progress x.runs (submitted_all x.runs batch) x'.runs left
      → Chain (length batch) (kept_at x) left
  sent_call batch ended x x' one left out = record {
    calls = 1;
    lives = (
      left,
      inl (record {
        before = x.progress;
        old = x.runs;
        new = x'.runs;
        batch = batch;
        keeper = x.keeper;
        keeper' = x'.keeper;
        ended = ended;
        is_kept = refl;
        sends = subst (λ p. SendsKept opens closes remaining contents saves fails p (submitted_all x.runs batch) x'.runs
            x.keeper x'.keeper ended) one.progress one.sends;
        outlives = subst (λ p. OutlivesBatch x.progress p x.runs (submitted_all x.runs batch) x'.runs left) one.progress
            out;
      }),
      refl,
    );
    more = (by out).0;
    taken = (by out).1;
    within = (by out).2;
  }
    where
      counted : x'.progress.taken ≡ x.progress.taken + length batch
      counted = ap (λ p. p.taken) one.progress

      by : OutlivesBatch x.progress x'.progress x.runs (submitted_all x.runs batch) x'.runs left
          → (more : ℕ) × (left.taken ≡ x.progress.taken + more) × (more ≤ length batch)
      by (inl (is, unsent)) =
          (0, (let same = ap (λ (k : KeptServer). k.taken) is in omega (arith, same)), omega arith)
      by (inr (inl is)) = (length batch, ap (λ (k : KeptServer). k.taken) is ∙ counted, omega arith)
      by (inr (inr is)) = (length batch, ap (λ (k : KeptServer). k.taken) is ∙ counted, omega arith)

  after_sending : (batch : List (List ℕ)) (x x' : At) (went : Went)
      → SendsTold opens closes remaining contents leaves is_clean saves fails batch x x' went
      → After (length batch) x x' went
  after_sending batch x x' went (ended, one, tells) = record {
    clean = one.clean;
    settled = λ is settled clean. told_stays ended x' x.held x'.held went tells is (one.settled clean);
    whole = sent_call batch ended x x' one (kept_at x') (inr (inr refl));
    outlives = λ settled clean left leaves_it.
        sent_call batch ended x x' one left (one.outlives settled clean left leaves_it);
  }

  parts : (size : ℕ) (messages : List (List ℕ))
      → length (take size messages) + length (drop size messages) ≡ length messages
  parts size messages =
      let front = length-take size messages in
      let back = length-drop size messages in
      omega (arith, front, back)

  pub after_batches : (size n : ℕ) (messages : List (List ℕ)) (x x' : At) (went : Went)
      → SendsOut opens closes remaining contents leaves is_clean saves fails size n messages x x' went
      → After (length messages) x x' went
  after_batches size zero messages x x' went (none, same, is) =
      subst (λ ms. After (length ms) x x' went) (sym none)
      (subst (λ y. After 0 x y went) (sym same) (calls.after_none opens closes remaining contents leaves is_clean saves
      fails x went))
  after_batches size (suc n) messages x x' went (some, inl (y, first, rest)) =
      subst (λ m. After m x x' went) (parts size messages)
      (calls.after_on opens closes remaining contents leaves is_clean saves fails (length (take size messages))
      (length (drop size messages)) x y x' went
      (after_sending (take size messages) x y goes first) (after_batches size n (drop size messages) y x' went rest))
  after_batches size (suc n) messages x x' went (some, inr (stop, first, is)) =
      subst (λ m. After m x x' went) (parts size messages)
      (calls.after_stop opens closes remaining contents leaves is_clean saves fails (length (take size messages))
      (length (drop size messages)) x x' stop went is
      (after_sending (take size messages) x x' (stopped stop) first))
