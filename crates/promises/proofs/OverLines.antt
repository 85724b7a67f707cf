-- A run whose batches are taken from a feed, by what is seen of the input.
use Rattle.std.proofs.Common.{ℕ, zero, suc, Bool, true, List, ap, inl, inr}
use Rattle.std.specs.Prelude.{Option, Ok, Err}
use Rattle.line_batches.specs.declared.intake.Input.{Input}
use Rattle.uecp_link.specs.Server.{ServerState}
use Rattle.uecp_net.specs.Sending.{SenderOver}
use Rattle.uecp_net.specs.Keeping.{KeptServer}
use Rattle.kept_jobs.specs.Stops.{Went}
use Rattle.line_batches.specs.declared.taking.After.{After}
use Rattle.line_batches.specs.declared.taking.After.TheVariants.{GoesOn, Ends}
use Rattle.line_batches.specs.Intake.{Intake}
use Rattle.line_batches.specs.Laws.{SeesBatch}
use Rattle.output_forms.specs.declared.form.Form.{Form}
use Rattle.sending.specs.declared.account.Account.{Account}
use Rattle.sending.specs.declared.account.Account.TheVariants.{Numbered}
use Rattle.sending.specs.declared.options.LiveOptions.{LiveOptions}
use Rattle.sending.specs.declared.options.RunOptions.{RunOptions}
use Rattle.sending.specs.Run as over

-- where a run stands, by what is seen of its input
abbrev pub Live : (S K : Type 0) → Type 0
Live S K = over.Live Intake S K

-- what is seen of a batch
abbrev pub InSight : Input → (strict : Bool) → (size : ℕ) → (messages : List (List ℕ)) → After → (x x' : Intake)
    → Type 0
InSight input strict size = SeesBatch input size strict

module _ {C I O K : Type 0} (opens : C → Option (I × O) → C → Type 0) (closes : C → I → O → C → Type 0)
    (remaining : I → Option (List ℕ)) (contents : O → Option (List ℕ)) (leaves : K → KeptServer → Type 0)
    (is_clean : K → Type 0) (saves fails : K → KeptServer → K → Type 0) where
  module _ (form : Form) (input : Input) (size : ℕ) (strict : Bool) where
    abbrev pub Turn : (x x' : Live (SenderOver C I O) K) → After → Went → Type 0
    Turn = over.Turn (SeesBatch input size strict) opens closes remaining contents leaves is_clean saves fails
        (Numbered form)

    abbrev pub GoesOnFor : (turns : ℕ) → (x x' : Live (SenderOver C I O) K) → Type 0
    GoesOnFor =
        over.GoesOnFor (SeesBatch input size strict) opens closes remaining contents leaves is_clean saves fails
        (Numbered form)

    abbrev pub RunsTurns : (x x' : Live (SenderOver C I O) K) → Went → Type 0
    RunsTurns =
        over.RunsTurns (SeesBatch input size strict) opens closes remaining contents leaves is_clean saves fails
        (Numbered form)

  abbrev pub RunsOn : LiveOptions → (behind : After) → (x x' : Live (SenderOver C I O) K) → Went → Type 0
  RunsOn options = over.RunsOn (InSight options.reading.input options.reading.strict) opens closes remaining contents
      leaves
      is_clean saves fails (over.run_of options)

  abbrev pub RunsLive : LiveOptions → (due : Bool) → (x x' : Live (SenderOver C I O) K) → Went → Type 0
  RunsLive options = over.RunsLive (InSight options.reading.input options.reading.strict) opens closes remaining
      contents leaves
      is_clean saves fails (over.run_of options)

  abbrev pub RunsOne : LiveOptions → (due : Bool) → (c c' : C) → (x x' : Live ServerState K) → Went → Type 0
  RunsOne options = over.RunsOne (InSight options.reading.input options.reading.strict) opens closes remaining contents
      leaves
      is_clean saves fails (over.run_of options)

  abbrev pub RunsAgain : LiveOptions → (address : ℕ) → (c c' : C) → (x x' : Live ServerState K) → Went → Type 0
  RunsAgain options = over.RunsAgain (InSight options.reading.input options.reading.strict) opens closes remaining
      contents leaves
      is_clean saves fails (over.run_of options)

  abbrev pub RunsFor : LiveOptions → (due : Bool) → (again : ℕ) → (c c' : C) → (x x' : Live ServerState K) → Went
      → Type 0
  RunsFor options = over.RunsFor (InSight options.reading.input options.reading.strict) opens closes remaining contents
      leaves
      is_clean saves fails (over.run_of options)

  abbrev pub LivesFrom : LiveOptions → (c c' : C) → (x : Live ServerState K) → (k' : K) → (held' : Option (List ℕ))
      → (taken : Intake) → (applied : Bool) → Went → Type 0
  LivesFrom options = over.LivesFrom (InSight options.reading.input options.reading.strict) opens closes remaining
      contents leaves
      is_clean saves fails (over.run_of options)

  -- ---- What is seen of where a run stands, where that is seen of each batch.
  module _ {T U : Type 0} (at : T → U) (takes : ℕ → List (List ℕ) → After → T → T → Type 0)
      (sees : ℕ → List (List ℕ) → After → U → U → Type 0)
      (sight : (size : ℕ) (messages : List (List ℕ)) (after : After) (x x' : T)
      → takes size messages after x x' → sees size messages after (at x) (at x')) where
    abbrev seen : {S : Type 0} → over.Live T S K → over.Live U S K
    seen x = record {
      sends = x.sends;
      takes = at x.takes;
      applied = x.applied;
      unknown = x.unknown;
      behind = x.behind;
    }

    abbrev At : Type 0
    At = over.Live T (SenderOver C I O) K

    abbrev Was : Type 0
    Was = over.Live T ServerState K

    turn_seen : (size : ℕ) (account : Account) (x x' : At) (after : After) (went : Went)
        → over.Turn (takes size) opens closes remaining contents leaves is_clean saves fails account x x' after went
        → over.Turn (sees size) opens closes remaining contents leaves is_clean saves fails account (seen x) (seen x')
        after went
    turn_seen size account x x' after went turn = record {
      messages = turn.messages;
      taken = sight size turn.messages after x.takes x'.takes turn.taken;
      sends = turn.sends;
      behind = turn.behind;
    }

    going_seen : (size : ℕ) (account : Account) (n : ℕ) (x x' : At)
        → over.GoesOnFor (takes size) opens closes remaining contents leaves is_clean saves fails account n x x'
        → over.GoesOnFor (sees size) opens closes remaining contents leaves is_clean saves fails account n (seen x)
        (seen x')
    going_seen size account zero x x' same = ap seen same
    going_seen size account (suc n) x x' (y, before, turn) =
        (seen y, going_seen size account n x y before, turn_seen size account y x' GoesOn (Ok tt) turn)

    turns_seen : (size : ℕ) (account : Account) (x x' : At) (went : Went)
        → over.RunsTurns (takes size) opens closes remaining contents leaves is_clean saves fails account x x' went
        → over.RunsTurns (sees size) opens closes remaining contents leaves is_clean saves fails account (seen x)
        (seen x') went
    turns_seen size account x x' went (n, y, before, inl (inl (end, turn, is))) = (
      n,
      seen y,
      going_seen size account n x y before,
      inl (inl (end, turn_seen size account y x' (Ends end) (Ok tt) turn, is)),
    )
    turns_seen size account x x' went (n, y, before, inl (inr (after, stop, turn, is))) = (
      n,
      seen y,
      going_seen size account n x y before,
      inl (inr (after, stop, turn_seen size account y x' after (Err stop) turn, is)),
    )
    turns_seen size account x x' went (n, y, before, inr (all, same, is)) =
        (n, seen y, going_seen size account n x y before, inr (all, ap seen same, is))

    makes_seen : (options : RunOptions) (due : Bool) (x x' : At) (went : Went)
        → over.MakesOnce opens closes remaining contents leaves is_clean saves fails options due x x' went
        → over.MakesOnce opens closes remaining contents leaves is_clean saves fails options due (seen x) (seen x') went
    makes_seen options due x x' went (makes, same, unknown, behind) = (makes, ap at same, unknown, behind)

    settles_seen : (options : RunOptions) (x x' : At) (went : Went)
        → over.SettlesOnce opens closes remaining contents leaves is_clean saves fails options x x' went
        → over.SettlesOnce opens closes remaining contents leaves is_clean saves fails options (seen x) (seen x') went
    settles_seen options x x' went (settles, same, behind) = (settles, ap at same, behind)

    runs_on_seen : (options : RunOptions) (behind : After) (x x' : At) (went : Went)
        → over.RunsOn takes opens closes remaining contents leaves is_clean saves fails options behind x x' went
        → over.RunsOn sees opens closes remaining contents leaves is_clean saves fails options behind (seen x) (seen x')
        went
    runs_on_seen options GoesOn x x' went (inl (y, settles, turns)) =
        inl (seen y, settles_seen options x y (Ok tt) settles, turns_seen options.size options.account y x' went turns)
    runs_on_seen options GoesOn x x' went (inr (stop, settles, is)) =
        inr (stop, settles_seen options x x' (Err stop) settles, is)
    runs_on_seen options (Ends end) x x' went (same, is) = (ap seen same, is)

    runs_live_seen : (options : RunOptions) (due : Bool) (x x' : At) (went : Went)
        → over.RunsLive takes opens closes remaining contents leaves is_clean saves fails options due x x' went
        → over.RunsLive sees opens closes remaining contents leaves is_clean saves fails options due (seen x) (seen x')
        went
    runs_live_seen options due x x' went (inl (y, makes, runs)) =
        inl (seen y, makes_seen options due x y (Ok tt) makes, runs_on_seen options y.behind y x' went runs)
    runs_live_seen options due x x' went (inr (stop, makes, is)) =
        inr (stop, makes_seen options due x x' (Err stop) makes, is)

    one_seen : (options : RunOptions) (due : Bool) (c c' : C) (x x' : Was) (went : Went)
        → over.RunsOne takes opens closes remaining contents leaves is_clean saves fails options due c c' x x' went
        → over.RunsOne sees opens closes remaining contents leaves is_clean saves fails options due c c' (seen x)
        (seen x') went
    one_seen options due c c' x x' went (loan, z, runs, hangs_up, is) =
        (loan, seen z, runs_live_seen options due _ z went runs, hangs_up, ap seen is)

    again_seen : (options : RunOptions) (address : ℕ) (c c' : C) (x x' : Was) (went : Went)
        → over.RunsAgain takes opens closes remaining contents leaves is_clean saves fails options address c c' x x'
        went
        → over.RunsAgain sees opens closes remaining contents leaves is_clean saves fails options address c c' (seen x)
        (seen x') went
    again_seen options address c c' x x' went (y, idle, inl (renews, one)) =
        (y, idle, inl (renews, one_seen options true c c' (over.from_anew x y) x' went one))
    again_seen options address c c' x x' went (y, idle, inr (stop, renews, is, stays, same)) =
        (y, idle, inr (stop, renews, is, stays, ap seen same))

    for_seen : (options : RunOptions) (due : Bool) (again : ℕ) (c c' : C) (x x' : Was) (went : Went)
        → over.RunsFor takes opens closes remaining contents leaves is_clean saves fails options due again c c' x x'
        went
        → over.RunsFor sees opens closes remaining contents leaves is_clean saves fails options due again c c' (seen x)
        (seen x') went
    for_seen options due zero c c' x x' went one = one_seen options due c c' x x' went one
    for_seen options due (suc n) c c' x x' went (d, y, stopped, runs, rejoin, some, again) = (
      d,
      seen y,
      stopped,
      for_seen options due n c d x y stopped runs,
      rejoin,
      some,
      again_seen options x.sends.runs.address d c' y x' went again,
    )

    pub from_seen : (options : RunOptions) (c c' : C) (x : Was) (k' : K) (held' : Option (List ℕ)) (taken : T)
        (applied : Bool) (went : Went)
        → over.LivesFrom takes opens closes remaining contents leaves is_clean saves fails options c c' x k' held' taken
        applied went
        → over.LivesFrom sees opens closes remaining contents leaves is_clean saves fails options c c' (seen x) k' held'
        (at taken) applied went
    from_seen options c c' x k' held' taken applied went
        (inl (y, again, z, begun, runs, last, k_is, held_is, taken_is, applied_is)) =
        inl (
          y,
          again,
          seen z,
          begun,
          for_seen options _ again c c' _ z went runs,
          last,
          k_is,
          held_is,
          ap at taken_is,
          applied_is,
        )
    from_seen options c c' x k' held' taken applied went
        (inr (y, stop, begun, is, c_is, k_is, held_is, taken_is, applied_is)) =
        inr (y, stop, begun, is, c_is, k_is, held_is, ap at taken_is, applied_is)
