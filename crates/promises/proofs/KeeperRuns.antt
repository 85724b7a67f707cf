-- What keeps the state of a run came to what it is at the end by the run's saves.
use Rattle.std.proofs.Common.{◌≡◌, ℕ, zero, suc, ◌+◌, Bool, true, false, List, refl, sym, ap, subst, inl, inr}
use Rattle.std.proofs.Common.{arith}
use Rattle.std.specs.Prelude.{Option, Ok, Err}
use Rattle.uecp_elements.specs.declared.code.Code.{Code}
use Rattle.uecp_link.specs.Server.{ServerState}
use Rattle.uecp_net.specs.declared.saved.keep.Progress.{Progress}
use Rattle.uecp_net.specs.declared.saved.batch.KeptOutstanding.TheVariants.{Outstanding, StateFailed}
use Rattle.uecp_net.specs.Sending.{SenderOver}
use Rattle.uecp_net.specs.Keeping.{KeptServer}
use Rattle.uecp_net.specs.SavedSending.{Ended, SettlesKept, SendsKept}
use Rattle.uecp_net.specs.SavedJoining.{Joined}
use Rattle.kept_jobs.specs.Stops.{Went, Then}
use Rattle.kept_jobs.specs.ServerRun.{Standing}
use Rattle.line_batches.specs.declared.taking.After.{After}
use Rattle.line_batches.specs.declared.taking.After.TheVariants.{GoesOn, Ends}
use Rattle.sending.specs.declared.options.RunOptions.{RunOptions}
use Rattle.sending.specs.Accounts.{form_of}
use Rattle.sending.specs.Beginning.{TellsTaken, BeginsAnewIf}
use Rattle.sending.specs.Station.{MakesKept}
use Rattle.sending.specs.Run.{Live, Turn, GoesOnFor, RunsTurns, RunsOn, RunsLive, RunsOne, RunsAgain, RunsFor}
use Rattle.sending.specs.Run.{LivesFrom, MakesOnce, SettlesOnce, SendsSome, Renews, from_anew}
use Rattle.promises.specs.SendLaws.{SavedFor}

module _ {K : Type 0} (saves fails : K → KeptServer → K → Type 0) where
  by_count : (n m : ℕ) (x y : K) → n ≡ m → SavedFor saves fails n x y → SavedFor saves fails m x y
  by_count n m x y same saved = subst (λ i. SavedFor saves fails i x y) same saved

  saved_on : (n m : ℕ) (x y z : K) → SavedFor saves fails n x y → SavedFor saves fails m y z
      → SavedFor saves fails (m + n) x z
  saved_on n zero x y z before same =
      by_count n (0 + n) x z (omega arith) (subst (λ u. SavedFor saves fails n x u) (sym same) before)
  saved_on n (suc m) x y z before (u, left, rest, last) =
      by_count (suc (m + n)) (suc m + n) x z (omega arith) (u, left, saved_on n m x y u before rest, last)

  -- it came to this by some saves
  abbrev pub Saved : (k k' : K) → Type 0
  Saved k k' = (count : ℕ) × SavedFor saves fails count k k'

  pub none : (k k' : K) → k' ≡ k → Saved k k'
  none k k' same = (0, same)

  pub one : (k : K) (left : KeptServer) (k' : K) → saves k left k' → Saved k k'
  one k left k' is = (1, (k, left, refl, inl is))

  pub failed : (k : K) (left : KeptServer) (k' : K) → fails k left k' → Saved k k'
  failed k left k' is = (1, (k, left, refl, inr is))

  pub both : (x y z : K) → Saved x y → Saved y z → Saved x z
  both x y z (n, before) (m, rest) = (m + n, saved_on n m x y z before rest)

module _ {T C I O K : Type 0} (takes : ℕ → List (List ℕ) → After → T → T → Type 0)
    (opens : C → Option (I × O) → C → Type 0) (closes : C → I → O → C → Type 0)
    (remaining : I → Option (List ℕ)) (contents : O → Option (List ℕ)) (leaves : K → KeptServer → Type 0)
    (is_clean : K → Type 0) (saves fails : K → KeptServer → K → Type 0) (options : RunOptions) where
  abbrev At : Type 0
  At = Live T (SenderOver C I O) K

  abbrev Was : Type 0
  Was = Live T ServerState K

  abbrev Ours : (k k' : K) → Type 0
  Ours = Saved saves fails

  -- what was settled was saved once
  by_settling : (progress : Progress) (s s' : SenderOver C I O) (k k' : K) (ended : Ended)
      → SettlesKept opens closes remaining contents saves fails progress s s' k k' ended → Ours k k'
  by_settling progress s s' k k' (Ok settled) (settles, is) = one saves fails k _ k' is
  by_settling progress s s' k k' (Err (Outstanding reason)) (settles, is) = one saves fails k _ k' is
  by_settling progress s s' k k' (Err StateFailed) (settled, settles, is) = failed saves fails k _ k' is

  by_sending : (progress : Progress) (s s' : SenderOver C I O) (k k' : K) (ended : Ended)
      → SendsKept opens closes remaining contents saves fails progress s s' k k' ended → Ours k k'
  by_sending progress s s' k k' ended (inl (y, is, settles)) =
      both saves fails k y k' (one saves fails k _ y is) (by_settling progress s s' y k' ended settles)
  by_sending progress s s' k k' ended (inr (ended_so, same, is)) = failed saves fails k _ k' is

  by_making : (progress : Progress) (told : List Code) (s s' : SenderOver C I O) (k k' : K) (joined : Joined)
      → MakesKept opens closes remaining contents leaves is_clean saves fails (form_of options.account) options.size
      options.station.now progress told s s' k k' joined → Ours k k'
  by_making progress told s s' k k' (Ok done) (makes, is) = one saves fails k _ k' is
  by_making progress told s s' k k' (Err (Outstanding reason)) (makes, same) = none saves fails k k' same
  by_making progress told s s' k k' (Err StateFailed) (makes, is) = failed saves fails k _ k' is

  in_turn : (x x' : At) (after : After) (went : Went)
      → Turn (takes options.size) opens closes remaining contents leaves is_clean saves fails options.account x x' after
      went → Ours x.sends.keeper x'.sends.keeper
  in_turn x x' after went turn = by turn.sends
    where
      by : SendsSome opens closes remaining contents leaves is_clean saves fails options.account turn.messages x.sends
          x'.sends x.applied x'.applied x.unknown x'.unknown went → Ours x.sends.keeper x'.sends.keeper
      by (inl (nothing, same, applied, unknown, is)) =
          none saves fails x.sends.keeper x'.sends.keeper (ap (λ (y : Standing (SenderOver C I O) K). y.keeper) same)
      by (inr (some, (ended, sends, told, applied, unknown))) = by_sending _ _ _ _ _ ended sends.sends

  in_going : (n : ℕ) (x x' : At)
      → GoesOnFor (takes options.size) opens closes remaining contents leaves is_clean saves fails options.account n x
      x' → Ours x.sends.keeper x'.sends.keeper
  in_going zero x x' same = none saves fails _ _ (ap (λ (y : At). y.sends.keeper) same)
  in_going (suc n) x x' (y, before, turn) =
      both saves fails x.sends.keeper y.sends.keeper x'.sends.keeper (in_going n x y before)
      (in_turn y x' GoesOn (Ok tt) turn)

  in_turns : (x x' : At) (went : Went)
      → RunsTurns (takes options.size) opens closes remaining contents leaves is_clean saves fails options.account x x'
      went → Ours x.sends.keeper x'.sends.keeper
  in_turns x x' went (n, y, before, inl (inl (end, turn, is))) =
      both saves fails x.sends.keeper y.sends.keeper x'.sends.keeper (in_going n x y before)
      (in_turn y x' (Ends end) (Ok tt) turn)
  in_turns x x' went (n, y, before, inl (inr (after, stop, turn, is))) =
      both saves fails x.sends.keeper y.sends.keeper x'.sends.keeper (in_going n x y before)
      (in_turn y x' after (Err stop) turn)
  in_turns x x' went (n, y, before, inr (all, same, is)) =
      both saves fails x.sends.keeper y.sends.keeper x'.sends.keeper (in_going n x y before)
      (none saves fails _ _ (ap (λ (z : At). z.sends.keeper) same))

  in_settled : (x x' : At) (went : Went)
      → SettlesOnce opens closes remaining contents leaves is_clean saves fails options x x' went
      → Ours x.sends.keeper x'.sends.keeper
  in_settled x x' went (inl (nothing, same, applied, unknown, is), taken, behind) =
      none saves fails _ _ (ap (λ (y : Standing (SenderOver C I O) K). y.keeper) same)
  in_settled x x' went (inr (some, (ended, settles, told, applied, unknown)), taken, behind) =
      by_settling _ _ _ _ _ ended settles.settles

  in_made : (due : Bool) (x x' : At) (went : Went)
      → MakesOnce opens closes remaining contents leaves is_clean saves fails options due x x' went
      → Ours x.sends.keeper x'.sends.keeper
  in_made false x x' went ((same, applied, is), taken, unknown, behind) =
      none saves fails _ _ (ap (λ (y : Standing (SenderOver C I O) K). y.keeper) same)
  in_made true x x' went ((told, joined, makes, said, applied), taken, unknown, behind) =
      by_making _ told _ _ _ _ joined makes.makes

  in_run_on : (behind : After) (x x' : At) (went : Went)
      → RunsOn takes opens closes remaining contents leaves is_clean saves fails options behind x x' went
      → Ours x.sends.keeper x'.sends.keeper
  in_run_on GoesOn x x' went (inl (y, settles, turns)) =
      both saves fails x.sends.keeper y.sends.keeper x'.sends.keeper (in_settled x y (Ok tt) settles)
      (in_turns y x' went turns)
  in_run_on GoesOn x x' went (inr (stop, settles, is)) = in_settled x x' (Err stop) settles
  in_run_on (Ends end) x x' went (same, is) = none saves fails _ _ (ap (λ (y : At). y.sends.keeper) same)

  in_run : (due : Bool) (x x' : At) (went : Went)
      → RunsLive takes opens closes remaining contents leaves is_clean saves fails options due x x' went
      → Ours x.sends.keeper x'.sends.keeper
  in_run due x x' went (inl (y, makes, runs)) =
      both saves fails x.sends.keeper y.sends.keeper x'.sends.keeper (in_made due x y (Ok tt) makes)
      (in_run_on y.behind y x' went runs)
  in_run due x x' went (inr (stop, makes, is)) = in_made due x x' (Err stop) makes

  in_one : (due : Bool) (c c' : C) (x x' : Was) (went : Went)
      → RunsOne takes opens closes remaining contents leaves is_clean saves fails options due c c' x x' went
      → Ours x.sends.keeper x'.sends.keeper
  in_one due c c' x x' went (loan, z, runs, hangs_up, is) =
      both saves fails x.sends.keeper z.sends.keeper x'.sends.keeper (in_run due _ z went runs)
      (none saves fails _ _ (ap (λ (y : Was). y.sends.keeper) is))

  by_renewing : (x : Was) (y : Standing ServerState K) (went : Went)
      → Renews leaves is_clean saves fails (form_of options.account) x.unknown x.sends y went
      → Ours x.sends.keeper y.keeper
  by_renewing x y went renews = elim renews.saved [
    | inl is ↦ one saves fails x.sends.keeper _ y.keeper is.0
    | inr is ↦ failed saves fails x.sends.keeper _ y.keeper is.0
  ]

  in_again : (address : ℕ) (c c' : C) (x x' : Was) (went : Went)
      → RunsAgain takes opens closes remaining contents leaves is_clean saves fails options address c c' x x' went
      → Ours x.sends.keeper x'.sends.keeper
  in_again address c c' x x' went (y, idle, inl (renews, runs)) =
      both saves fails x.sends.keeper y.keeper x'.sends.keeper (by_renewing x y (Ok tt) renews)
      (in_one true c c' (from_anew x y) x' went runs)
  in_again address c c' x x' went (y, idle, inr (stop, renews, is, stays, same)) =
      both saves fails x.sends.keeper y.keeper x'.sends.keeper (by_renewing x y (Err stop) renews)
      (none saves fails _ _ (ap (λ (z : Was). z.sends.keeper) same))

  in_senders : (due : Bool) (again : ℕ) (c c' : C) (x x' : Was) (went : Went)
      → RunsFor takes opens closes remaining contents leaves is_clean saves fails options due again c c' x x' went
      → Ours x.sends.keeper x'.sends.keeper
  in_senders due zero c c' x x' went runs = in_one due c c' x x' went runs
  in_senders due (suc n) c c' x x' went (d, y, stopped, runs, rejoin, some, again) =
      both saves fails x.sends.keeper y.sends.keeper x'.sends.keeper (in_senders due n c d x y stopped runs)
      (in_again x.sends.runs.address d c' y x' went again)

  in_begun : (due : Bool) (x y : Standing ServerState K) (went : Went)
      → Then (TellsTaken (form_of options.account))
      (BeginsAnewIf leaves is_clean saves fails (form_of options.account) due) x y went → Ours x.keeper y.keeper
  in_begun false x y went (inl (z, (told, telling), (same, is))) =
      both saves fails x.keeper z.keeper y.keeper
      (none saves fails _ _ (ap (λ (u : Standing ServerState K). u.keeper) told))
      (none saves fails _ _ (ap (λ (u : Standing ServerState K). u.keeper) same))
  in_begun true x y went (inl (z, (told, telling), anew)) =
      both saves fails x.keeper z.keeper y.keeper
      (none saves fails _ _ (ap (λ (u : Standing ServerState K). u.keeper) told))
      (elim anew.saved [
        | inl is ↦ one saves fails z.keeper _ y.keeper is.0
        | inr is ↦ failed saves fails z.keeper _ y.keeper is.0
      ])
  in_begun due x y went (inr (stop, (told, telling), is)) =
      none saves fails _ _ (ap (λ (u : Standing ServerState K). u.keeper) told)

  pub keeper_comes : (c c' : C) (x : Was) (k' : K) (held' : Option (List ℕ)) (taken : T) (applied : Bool) (went : Went)
      → LivesFrom takes opens closes remaining contents leaves is_clean saves fails options c c' x k' held' taken
      applied
      went → Ours x.sends.keeper k'
  keeper_comes c c' x k' held' taken applied went
      (inl (y, again, z, begun, runs, last, k_is, held_is, taken_is, applied_is)) =
      both saves fails x.sends.keeper y.keeper k' (in_begun _ x.sends y (Ok tt) begun)
      (both saves fails y.keeper z.sends.keeper k' (in_senders _ again c c' _ z went runs)
      (none saves fails _ _ k_is))
  keeper_comes c c' x k' held' taken applied went
      (inr (y, stop, begun, is, c_is, k_is, held_is, taken_is, applied_is)) =
      both saves fails x.sends.keeper y.keeper k' (in_begun _ x.sends y (Err stop) begun) (none saves fails _ _ k_is)
