-- A run that makes turn after turn.
use Rattle.std.proofs.Common.{◌≡◌, ℕ, suc, arith, ◌+◌, ◌^◌, List, refl, subst, inl, inr}
use Rattle.std.specs.Prelude.{Option, Result, Ok, Err}
use Rattle.uecp_text.specs.declared.run_fault.RunFault.{RunFault}
use Rattle.uecp_text.specs.declared.run_fault.RunFault.TheVariants as run
use Rattle.uecp_net.specs.Sending.{SenderOver}
use Rattle.uecp_net.specs.Keeping.{KeptServer}
use Rattle.kept_jobs.specs.declared.stop.KeptStop.{KeptStop}
use Rattle.kept_jobs.specs.declared.stop.KeptStop.TheVariants.{Run}
use Rattle.kept_jobs.specs.Stops.{Went}
use Rattle.line_batches.specs.declared.taking.After.{After}
use Rattle.line_batches.specs.declared.taking.After.TheVariants.{GoesOn, Ends}
use Rattle.sending.specs.declared.account.Account.{Account}
use Rattle.sending.specs.Run.{Live, Turn, GoesOnFor, RunsTurns, ended_as}

-- turns by what takes the same
pub same_turn : {H T C I O K : Type 0} (takes : H → List (List ℕ) → After → T → T → Type 0)
    (opens : C → Option (I × O) → C → Type 0) (closes : C → I → O → C → Type 0)
    (remaining : I → Option (List ℕ)) (contents : O → Option (List ℕ)) (leaves : K → KeptServer → Type 0)
    (is_clean : K → Type 0) (saves fails : K → KeptServer → K → Type 0) (account : Account) (h h' : H) → h ≡ h'
    → (y z : Live T (SenderOver C I O) K) (after : After) (went : Went)
    → Turn (takes h) opens closes remaining contents leaves is_clean saves fails account y z after went
    → Turn (takes h') opens closes remaining contents leaves is_clean saves fails account y z after went
same_turn takes opens closes remaining contents leaves is_clean saves fails account h h' same y z after went turn =
    subst (λ i. Turn (takes i) opens closes remaining contents leaves is_clean saves fails account y z after went) same
    turn

module _ {T C I O K : Type 0} (takes : List (List ℕ) → After → T → T → Type 0) (opens : C → Option (I × O) → C → Type 0)
    (closes : C → I → O → C → Type 0)
    (remaining : I → Option (List ℕ)) (contents : O → Option (List ℕ)) (leaves : K → KeptServer → Type 0)
    (is_clean : K → Type 0) (saves fails : K → KeptServer → K → Type 0) (account : Account)
    (x : Live T (SenderOver C I O) K) (n : ℕ) (y : Live T (SenderOver C I O) K) where
  abbrev One : (y z : Live T (SenderOver C I O) K) → After → Went → Type 0
  One = Turn takes opens closes remaining contents leaves is_clean saves fails account

  abbrev So : (n : ℕ) → (y : Live T (SenderOver C I O) K) → Type 0
  So n y = GoesOnFor takes opens closes remaining contents leaves is_clean saves fails account n x y

  abbrev All : (z : Live T (SenderOver C I O) K) → Went → Type 0
  All z went = RunsTurns takes opens closes remaining contents leaves is_clean saves fails account x z went

  pub one_more : So n y → (z : Live T (SenderOver C I O) K) → One y z GoesOn (Ok tt) → So (n + 1) z
  one_more so z turn =
      let is : suc n ≡ n + 1 = search arith in
      subst (λ k. So k z) is (y, so, turn)

  pub ends : So n y → (z : Live T (SenderOver C I O) K) (end : Result (Unit {0}) RunFault) → One y z (Ends end) (Ok tt)
      → (went : Went) → went ≡ ended_as end → All z went
  ends so z end turn went is = (n, y, so, inl (inl (end, turn, is)))

  pub stops : So n y → (z : Live T (SenderOver C I O) K) (after : After) (stop : KeptStop) → One y z after (Err stop)
      → All z (Err stop)
  stops so z after stop turn = (n, y, so, inl (inr (after, stop, turn, refl)))

  pub gives_up : So n y → n ≡ 2 ^ 59 → All y (Err (Run run.Reading))
  gives_up so all = (n, y, so, inr (all, refl, refl))
