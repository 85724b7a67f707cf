-- The batches of a run, one after another.
use Rattle.std.proofs.Common.{◌≡◌, ℕ, zero, suc, Bool, true, List, [], ◌∷◌, ◌++◌, refl, ap, subst, inl, inr}
use Rattle.std.specs.Prelude.{Option, Ok, Err}
use Rattle.uecp_link.specs.Server.{ServerState}
use Rattle.uecp_net.specs.Sending.{SenderOver}
use Rattle.uecp_net.specs.Keeping.{KeptServer}
use Rattle.kept_jobs.specs.Stops.{Went}
use Rattle.line_batches.specs.declared.taking.After.{After}
use Rattle.line_batches.specs.declared.taking.After.TheVariants.{GoesOn, Ends}
use Rattle.sending.specs.declared.options.RunOptions.{RunOptions}
use Rattle.sending.specs.Run.{Live, Turn, GoesOnFor, RunsTurns, RunsOn, RunsLive, RunsOne, RunsAgain, RunsFor}
use Rattle.sending.specs.Run.{LivesFrom, MakesOnce, SettlesOnce, from_anew}
use Rattle.promises.specs.Taken.{AreBatches}

module _ {T : Type 0} (takes : List (List ℕ) → After → T → T → Type 0) where
  pub batches_on : (a b : List (List (List ℕ))) (x y z : T) → AreBatches takes a x y → AreBatches takes b y z
      → AreBatches takes (a ++ b) x z
  batches_on [] b x y z same more = subst (λ u. AreBatches takes b u z) same more
  batches_on (messages ∷ a) b x y z (after, u, one, rest) more =
      (after, u, one, batches_on a b u y z rest more)

  -- some batches were taken
  abbrev pub Batched : (x x' : T) → Type 0
  Batched x x' = (batches : List (List (List ℕ))) × AreBatches takes batches x x'

  no_more : (x x' : T) → x' ≡ x → Batched x x'
  no_more x x' same = ([], same)

  both : (x y z : T) → Batched x y → Batched y z → Batched x z
  both x y z (a, one) (b, more) = (a ++ b, batches_on a b x y z one more)

module _ {T C I O K : Type 0} (takes : ℕ → List (List ℕ) → After → T → T → Type 0)
    (opens : C → Option (I × O) → C → Type 0) (closes : C → I → O → C → Type 0)
    (remaining : I → Option (List ℕ)) (contents : O → Option (List ℕ)) (leaves : K → KeptServer → Type 0)
    (is_clean : K → Type 0) (saves fails : K → KeptServer → K → Type 0) (options : RunOptions) where
  abbrev At : Type 0
  At = Live T (SenderOver C I O) K

  abbrev Was : Type 0
  Was = Live T ServerState K

  abbrev Ours : (x x' : T) → Type 0
  Ours = Batched (takes options.size)

  in_turn : (x x' : At) (after : After) (went : Went)
      → Turn (takes options.size) opens closes remaining contents leaves is_clean saves fails options.account x x' after
      went → Ours x.takes x'.takes
  in_turn x x' after went turn = (turn.messages ∷ [], (after, x'.takes, turn.taken, refl))

  in_going : (n : ℕ) (x x' : At)
      → GoesOnFor (takes options.size) opens closes remaining contents leaves is_clean saves fails options.account n x
      x' → Ours x.takes x'.takes
  in_going zero x x' same = no_more (takes options.size) x.takes x'.takes (ap (λ (y : At). y.takes) same)
  in_going (suc n) x x' (y, before, turn) =
      both (takes options.size) x.takes y.takes x'.takes (in_going n x y before) (in_turn y x' GoesOn (Ok tt) turn)

  in_turns : (x x' : At) (went : Went)
      → RunsTurns (takes options.size) opens closes remaining contents leaves is_clean saves fails options.account x x'
      went → Ours x.takes x'.takes
  in_turns x x' went (n, y, before, inl (inl (end, turn, is))) =
      both (takes options.size) x.takes y.takes x'.takes (in_going n x y before)
      (in_turn y x' (Ends end) (Ok tt) turn)
  in_turns x x' went (n, y, before, inl (inr (after, stop, turn, is))) =
      both (takes options.size) x.takes y.takes x'.takes (in_going n x y before) (in_turn y x' after (Err stop) turn)
  in_turns x x' went (n, y, before, inr (all, same, is)) =
      both (takes options.size) x.takes y.takes x'.takes (in_going n x y before)
      (no_more (takes options.size) y.takes x'.takes (ap (λ (z : At). z.takes) same))

  in_settled : (x x' : At) (went : Went)
      → SettlesOnce opens closes remaining contents leaves is_clean saves fails options x x' went
      → Ours x.takes x'.takes
  in_settled x x' went (settles, same, behind) = no_more (takes options.size) x.takes x'.takes same

  in_made : (due : Bool) (x x' : At) (went : Went)
      → MakesOnce opens closes remaining contents leaves is_clean saves fails options due x x' went
      → Ours x.takes x'.takes
  in_made due x x' went (makes, same, unknown, behind) = no_more (takes options.size) x.takes x'.takes same

  in_run_on : (behind : After) (x x' : At) (went : Went)
      → RunsOn takes opens closes remaining contents leaves is_clean saves fails options behind x x' went
      → Ours x.takes x'.takes
  in_run_on GoesOn x x' went (inl (y, settles, turns)) =
      both (takes options.size) x.takes y.takes x'.takes (in_settled x y (Ok tt) settles) (in_turns y x' went turns)
  in_run_on GoesOn x x' went (inr (stop, settles, is)) = in_settled x x' (Err stop) settles
  in_run_on (Ends end) x x' went (same, is) =
      no_more (takes options.size) x.takes x'.takes (ap (λ (y : At). y.takes) same)

  in_run : (due : Bool) (x x' : At) (went : Went)
      → RunsLive takes opens closes remaining contents leaves is_clean saves fails options due x x' went
      → Ours x.takes x'.takes
  in_run due x x' went (inl (y, makes, runs)) =
      both (takes options.size) x.takes y.takes x'.takes (in_made due x y (Ok tt) makes)
      (in_run_on y.behind y x' went runs)
  in_run due x x' went (inr (stop, makes, is)) = in_made due x x' (Err stop) makes

  in_one : (due : Bool) (c c' : C) (x x' : Was) (went : Went)
      → RunsOne takes opens closes remaining contents leaves is_clean saves fails options due c c' x x' went
      → Ours x.takes x'.takes
  in_one due c c' x x' went (loan, z, runs, hangs_up, is) =
      both (takes options.size) x.takes z.takes x'.takes (in_run due _ z went runs)
      (no_more (takes options.size) z.takes x'.takes (ap (λ (y : Was). y.takes) is))

  in_again : (address : ℕ) (c c' : C) (x x' : Was) (went : Went)
      → RunsAgain takes opens closes remaining contents leaves is_clean saves fails options address c c' x x' went
      → Ours x.takes x'.takes
  in_again address c c' x x' went (y, idle, inl (renews, one)) = in_one true c c' (from_anew x y) x' went one
  in_again address c c' x x' went (y, idle, inr (stop, renews, is, stays, same)) =
      no_more (takes options.size) x.takes x'.takes (ap (λ (z : Was). z.takes) same)

  in_senders : (due : Bool) (again : ℕ) (c c' : C) (x x' : Was) (went : Went)
      → RunsFor takes opens closes remaining contents leaves is_clean saves fails options due again c c' x x' went
      → Ours x.takes x'.takes
  in_senders due zero c c' x x' went one = in_one due c c' x x' went one
  in_senders due (suc n) c c' x x' went (d, y, stopped, runs, rejoin, some, again) =
      both (takes options.size) x.takes y.takes x'.takes (in_senders due n c d x y stopped runs)
      (in_again x.sends.runs.address d c' y x' went again)

  pub in_all : (c c' : C) (x : Was) (k' : K) (held' : Option (List ℕ)) (taken : T) (applied : Bool) (went : Went)
      → LivesFrom takes opens closes remaining contents leaves is_clean saves fails options c c' x k' held' taken
      applied
      went → Ours x.takes taken
  in_all c c' x k' held' taken applied went
      (inl (y, again, z, begun, runs, last, k_is, held_is, taken_is, applied_is)) =
      both (takes options.size) x.takes z.takes taken (in_senders _ again c c' _ z went runs)
      (no_more (takes options.size) z.takes taken taken_is)
  in_all c c' x k' held' taken applied went (inr (y, stop, begun, is, c_is, k_is, held_is, taken_is, applied_is)) =
      no_more (takes options.size) x.takes taken taken_is
