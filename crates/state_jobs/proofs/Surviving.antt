-- What a crash leaves of a server's run, from its first line to its end.
use Rattle.std.proofs.Common.{arith, ◌≡◌, ◌⊎◌, ℕ, ◌+◌, Bool, true, false, List, length, Option}
use Rattle.std.proofs.Common.{refl, sym, ap, subst, ◌∙◌, inl, inr}
use Rattle.uecp_text.specs.Input.{texts_of}
use Rattle.uecp_link.specs.Server.{ServerState}
use Rattle.uecp_net.specs.declared.sender.Limits.{Limits}
use Rattle.uecp_net.specs.Sending.{SenderOver}
use Rattle.uecp_jobs.specs.Batches.{batch_size}
use Rattle.uecp_jobs.specs.Messages.{messages_first}
use Rattle.uecp_net.specs.declared.saved.keep.Progress.{Progress}
use Rattle.uecp_net.specs.Keeping.{KeptServer, kept_of, IsKept}
use Rattle.kept_jobs.specs.Stops.{Went, Then}
use Rattle.kept_jobs.specs.ServerRun.{Standing}
use Rattle.state_jobs.proofs.Steps.{TellsTaken, BeginsAnewIf, RunsSender, SendsMessages, RunsServer}
use Rattle.kept_jobs.specs.ServerRun.{sending}
use Rattle.kept_jobs.specs.ServerRun.{is_due, not_joined}
use Rattle.kept_jobs.specs.ServerKept.{OutlivesMessages, OutlivesRun}
use Rattle.kept_jobs.proofs.Public.{goes, stopped}
use Rattle.kept_jobs.proofs.Public.{Chain, After, after_on, after_stop}
use Rattle.state_jobs.proofs.SendingCalls.{after_settling_first, after_batches}
use Rattle.kept_jobs.proofs.Public.{HasBegun, LeftBegun}
use Rattle.state_jobs.proofs.Begun.{begun_so, has_begun, Joining, First, joining_if}

module _ {C I O K : Type 0} (opens : C → Option (I × O) → C → Type 0) (closes : C → I → O → C → Type 0)
    (remaining : I → Option (List ℕ)) (contents : O → Option (List ℕ)) (leaves : K → KeptServer → Type 0)
    (is_clean : K → Type 0) (saves fails : K → KeptServer → K → Type 0) where
  abbrev At : Type 0
  At = Standing (SenderOver C I O) K

  abbrev Was : Type 0
  Was = Standing ServerState K

  abbrev IsKeptAt : At → Type 0
  IsKeptAt x = IsKept (leaves x.keeper) x.progress x.runs.sender.server

  abbrev kept_at : At → KeptServer
  kept_at x = kept_of x.progress x.runs.sender.server

  abbrev Calls : (most : ℕ) → (kept left : KeptServer) → Type 0
  Calls = Chain opens closes remaining contents leaves is_clean saves fails

  abbrev FirstOf : (due : Bool) → At → KeptServer → Type 0
  FirstOf = First opens closes remaining contents leaves is_clean saves fails

  -- what a crash leaves of a sender
  abbrev Left : (due : Bool) → (most : ℕ) → At → KeptServer → Type 0
  Left due most x left =
      (left ≡ kept_at x) ⊎ ((first : KeptServer) × FirstOf due x first × Calls most first left)

  record Sender (due : Bool) (most : ℕ) (x x' : At) : Type 0 where
    pub clean : is_clean x'.keeper → is_clean x.keeper
    pub outlives : IsKeptAt x → is_clean x'.keeper → (left : KeptServer) → leaves x'.keeper left → Left due most x left

  sender_so : (due : Bool) (most : ℕ) (x y x' : At) (went : Went)
      → Joining opens closes remaining contents leaves is_clean saves fails due x y goes
      → After opens closes remaining contents leaves is_clean saves fails most y x' went → Sender due most x x'
  sender_so due most x y x' went joined sent = record {
    clean = λ clean. joined.clean (sent.clean clean);
    outlives = λ settled clean left leaves_it.
        inr (
          kept_at y,
          joined.first refl,
          sent.outlives (joined.settled refl settled (sent.clean clean)) clean left leaves_it,
        );
  }

  sender_stops : (due : Bool) (most : ℕ) (x x' : At) (went : Went)
      → Joining opens closes remaining contents leaves is_clean saves fails due x x' went → Sender due most x x'
  sender_stops due most x x' went joined = record {
    clean = joined.clean;
    outlives = λ settled clean left leaves_it. by left (joined.outlives settled clean left leaves_it);
  }
    where
      by : (left : KeptServer) → (left ≡ kept_at x) ⊎ FirstOf due x left → Left due most x left
      by left (inl is) = inl is
      by left (inr first) =
          inr (
            left,
            first,
            record {
              calls = 0;
              lives = refl;
              more = 0;
              taken = omega arith;
              within = omega arith;
            },
          )

  none_before : (n : ℕ) → 0 + n ≡ n
  none_before n = omega arith

  runs_sender : (due : Bool) (size : ℕ) (messages : List (List ℕ)) (x x' : At) (went : Went)
      → RunsSender opens closes remaining contents leaves is_clean saves fails due size messages x x' went
      → Sender due (length messages) x x'
  runs_sender due size messages x x' went (inl (y, joins, inl (z, settles, (n, sends)))) =
      subst (λ m. Sender due m x x') (none_before (length messages)) (sender_so due (0 + length messages) x y x' went
      (joining_if opens closes remaining contents leaves is_clean saves fails due x y goes joins)
      (after_on opens closes remaining contents leaves is_clean saves fails 0 (length messages) y z x' went
      (after_settling_first opens closes remaining contents leaves is_clean saves fails y z goes settles)
      (after_batches opens closes remaining contents leaves is_clean saves fails size n messages z x' went sends)))
  runs_sender due size messages x x' went (inl (y, joins, inr (stop, settles, is))) =
      subst (λ m. Sender due m x x') (none_before (length messages)) (sender_so due (0 + length messages) x y x' went
      (joining_if opens closes remaining contents leaves is_clean saves fails due x y goes joins)
      (after_stop opens closes remaining contents leaves is_clean saves fails 0 (length messages) y x' stop went is
      (after_settling_first opens closes remaining contents leaves is_clean saves fails y x' (stopped stop) settles)))
  runs_sender due size messages x x' went (inr (stop, joins, is)) =
      sender_stops due (length messages) x x' (stopped stop)
      (joining_if opens closes remaining contents leaves is_clean saves fails due x x' (stopped stop) joins)

  -- ---- From the server on.

  -- what a crash leaves of a run, the premise of which reaches back
  pub record Survives (due : Bool) (most : ℕ) (x : Was) (k' : K) : Type 0 where
    pub clean : is_clean k' → is_clean x.keeper
    pub outlives : IsKept (leaves x.keeper) x.progress x.runs → is_clean k' → (left : KeptServer) → leaves k' left
        → OutlivesMessages opens closes remaining contents saves fails due most x.progress x.runs left

  begun_left : (due : Bool) (most : ℕ) (x : Was) (left : KeptServer)
      → LeftBegun leaves is_clean saves fails due x left
      → OutlivesMessages opens closes remaining contents saves fails due most x.progress x.runs left
  begun_left due most x left (inl is) = inl is
  begun_left due most x left (inr (is_it, new)) = inr (inl (is_it, new))

  sent_left : (due : Bool) (most : ℕ) (x y : Was) (c : C) (loan : ℕ) (limits : Limits)
      → HasBegun leaves is_clean saves fails due x y → (left : KeptServer)
      → Left due most (sending opens closes remaining contents leaves is_clean saves fails c loan limits y) left
      → OutlivesMessages opens closes remaining contents saves fails due most x.progress x.runs left
  sent_left false most x y c loan limits (runs, progress) left (inl is) =
      inl (is ∙ ap (λ p. kept_of p y.runs) progress ∙ ap (λ r. kept_of x.progress r) runs)
  sent_left true most x y c loan limits (runs, progress) left (inl is) =
      inr (inl (refl, is ∙ ap (λ p. kept_of p y.runs) progress ∙ ap (λ r. kept_of (not_joined x.progress) r) runs))
  sent_left false most x y c loan limits (runs, progress) left (inr (first, is_first, calls)) =
      inr (inr (record {
        first = first;
        at_first = is_first ∙ ap (λ p. kept_of p y.runs) progress ∙ ap (λ r. kept_of x.progress r) runs;
        calls = calls.calls;
        lives = calls.lives;
        more = calls.more;
        taken = calls.taken
            ∙ ap (λ n. n + calls.more) (ap (λ (k : KeptServer). k.taken) is_first ∙ ap (λ p. p.taken) progress);
        most = calls.within;
      }))
  sent_left true most x y c loan limits (runs, progress) left (inr (first, (joined, joins, is_first), calls)) =
      inr (inr (record {
        first = first;
        at_first = (
          (sending opens closes remaining contents leaves is_clean saves fails c loan limits y).runs,
          joined,
          runs,
          joins,
          is_first ∙ ap (λ (p : Progress). kept_of (record p { joined = true }) joined.sender.server) progress,
        );
        calls = calls.calls;
        lives = calls.lives;
        more = calls.more;
        taken = calls.taken
            ∙ ap (λ n. n + calls.more) (ap (λ (k : KeptServer). k.taken) is_first ∙ ap (λ p. p.taken) progress);
        most = calls.within;
      }))

  survives_sending : (due : Bool) (most : ℕ) (x y : Was) (c : C) (loan : ℕ) (limits : Limits) (z : At)
      → Then TellsTaken (BeginsAnewIf leaves is_clean saves fails due) x y goes
      → Sender due most (sending opens closes remaining contents leaves is_clean saves fails c loan limits y) z
      → Survives due most x z.keeper
  survives_sending due most x y c loan limits z begins sent =
      let begun = begun_so leaves is_clean saves fails due x y goes begins in
      let has = has_begun leaves is_clean saves fails due x y begins in record {
        clean = λ clean. begun.clean (sent.clean clean);
        outlives = λ settled clean left leaves_it. sent_left due most x y c loan limits has left
            (sent.outlives (begun.settled refl settled (sent.clean clean)) clean left leaves_it);
      }

  survives_begun : (due : Bool) (most : ℕ) (x y : Was) (went : Went)
      → Then TellsTaken (BeginsAnewIf leaves is_clean saves fails due) x y went → Survives due most x y.keeper
  survives_begun due most x y went begins =
      let begun = begun_so leaves is_clean saves fails due x y went begins in record {
        clean = begun.clean;
        outlives = λ settled clean left leaves_it. begun_left due most x left
            (begun.outlives settled clean left leaves_it);
      }

  sends_messages : (join : Bool) (size : ℕ) (limits : Limits) (messages : List (List ℕ)) (c c' : C) (x : Was) (k' : K)
      (held' : Option (List ℕ)) (went : Went)
      → SendsMessages opens closes remaining contents leaves is_clean saves fails join size limits messages c c' x k'
      held' went → Survives (is_due join x.progress) (length messages) x k'
  sends_messages join size limits messages c c' x k' held' went
      (inl (y, loan, z, begins, ran, finishes, keeper, held)) =
      let due = is_due join x.progress in
      subst (λ k. Survives due (length messages) x k) (sym keeper)
      (survives_sending due (length messages) x y c loan limits z begins
      (runs_sender due size messages _ z went ran))
  sends_messages join size limits messages c c' x k' held' went
      (inr (y, stop, begins, is, connect, keeper, held)) =
      let due = is_due join x.progress in
      subst (λ k. Survives due (length messages) x k) (sym keeper)
      (survives_begun due (length messages) x y (stopped stop) begins)

  -- what a crash leaves of a whole run
  pub record RunSurvives (join : Bool) (unread unread' : Option (List ℕ)) (x : Was) (k' : K) : Type 0 where
    pub clean : is_clean k' → is_clean x.keeper
    pub outlives : IsKept (leaves x.keeper) x.progress x.runs → is_clean k' → (left : KeptServer) → leaves k' left
        → OutlivesRun opens closes remaining contents saves fails join unread unread' x.progress x.runs left

  pub run_survives : (window : ℕ) (join : Bool) (limits : Limits) (unread unread' : Option (List ℕ)) (c c' : C)
      (x : Was)
      (k' : K) (held' : Option (List ℕ)) (went : Went)
      → RunsServer opens closes remaining contents leaves is_clean saves fails window join limits unread unread' c c' x
      k' held' went → RunSurvives join unread unread' x k'
  run_survives window join limits unread unread' c c' x k' held' went (inl (input, sent, is_input, sends, is)) =
      let all = sends_messages join (batch_size window) limits (messages_first (texts_of input)) c c' x k' held' sent
      sends in record {
        clean = all.clean;
        outlives = λ settled clean left leaves_it.
            inr (input, is_input, all.outlives settled clean left leaves_it);
      }
  run_survives window join limits unread unread' c c' x k' held' went (inr (fault, why, is, connect, keeper, held)) =
      record {
        clean = λ clean. subst is_clean keeper clean;
        outlives = λ settled clean left leaves_it.
            inl (settled left (subst (λ k. leaves k left) keeper leaves_it));
      }
