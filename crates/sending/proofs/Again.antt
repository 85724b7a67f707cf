-- One sender after another.
use Rattle.std.proofs.Common.{◌≡◌, ℕ, zero, suc, arith, ◌+◌, ◌-◌, ◌^◌, ◌≤◌, ◌⊎◌, Bool, true, false, List, ◌++◌, ap}
use Rattle.std.proofs.Common.{subst, inl, inr}
use Rattle.std.specs.Prelude.{Option}
use Rattle.uecp_link.specs.Server.{ServerState}
use Rattle.uecp_net.specs.Keeping.{KeptServer}
use Rattle.kept_jobs.specs.Stops.{Went}
use Rattle.line_batches.specs.declared.taking.After.{After}
use Rattle.sending.specs.declared.options.RunOptions.{RunOptions}
use Rattle.sending.specs.Run.{Live, RunsAgain, RunsFor, IsLast}
use Rattle.sending.specs.Lines.{unknown_line, unknown_lines}

-- the line of one message more that is unknown
pub unknown_on : (first count : ℕ) → 1 ≤ count
    → unknown_lines first count ≡ unknown_line first ++ unknown_lines (first + 1) (count - 1)
unknown_on first zero some = absurd (omega (arith, some))
unknown_on first (suc n) some =
    ap (λ m. unknown_line first ++ unknown_lines (first + 1) m) (let same : n ≡ suc n - 1 = omega arith in same)

-- another sender by what takes the same
pub same_again : {H T C I O K : Type 0} (takes : H → ℕ → List (List ℕ) → After → T → T → Type 0)
    (opens : C → Option (I × O) → C → Type 0) (closes : C → I → O → C → Type 0)
    (remaining : I → Option (List ℕ)) (contents : O → Option (List ℕ)) (leaves : K → KeptServer → Type 0)
    (is_clean : K → Type 0) (saves fails : K → KeptServer → K → Type 0) (options : RunOptions) (h h' : H) → h ≡ h'
    → (address : ℕ) (c c' : C) (x x' : Live T ServerState K) (went : Went)
    → RunsAgain (takes h) opens closes remaining contents leaves is_clean saves fails options address c c' x x' went
    → RunsAgain (takes h') opens closes remaining contents leaves is_clean saves fails options address c c' x x' went
same_again takes opens closes remaining contents leaves is_clean saves fails options h h' same address c c' x x' went
    again =
    subst (λ i. RunsAgain (takes i) opens closes remaining contents leaves is_clean saves fails options address c c' x
    x' went) same again

module _ {T C I O K : Type 0} (takes : ℕ → List (List ℕ) → After → T → T → Type 0)
    (opens : C → Option (I × O) → C → Type 0) (closes : C → I → O → C → Type 0)
    (remaining : I → Option (List ℕ)) (contents : O → Option (List ℕ)) (leaves : K → KeptServer → Type 0)
    (is_clean : K → Type 0) (saves fails : K → KeptServer → K → Type 0) (options : RunOptions) (n : ℕ) where
  abbrev All : (due : Bool) → (n : ℕ) → (c c' : C) → (x x' : Live T ServerState K) → Went → Type 0
  All = RunsFor takes opens closes remaining contents leaves is_clean saves fails options

  pub one_more : (due : Bool) (c d e : C) (x y z : Live T ServerState K) (stopped went : Went)
      → All due n c d x y stopped → options.rejoin ≡ true → 1 ≤ y.unknown
      → (address : ℕ) → address ≡ x.sends.runs.address
      → RunsAgain takes opens closes remaining contents leaves is_clean saves fails options address d e y z went
      → All due (n + 1) c e x z went
  one_more due c d e x y z stopped went so rejoin some address is again =
      let step : suc n ≡ n + 1 = search arith in
      subst (λ k. All due k c e x z went) step (
        d,
        y,
        stopped,
        so,
        rejoin,
        some,
        subst (λ a. RunsAgain takes opens closes remaining contents leaves is_clean saves fails options a d e y z went)
            is
            again,
      )

  pub is_last : (x : Live T ServerState K)
      → (x.unknown ≡ 0) ⊎ (options.rejoin ≡ false) ⊎ (2 ^ 63 ≤ x.sends.progress.taken)
      → IsLast opens closes remaining contents leaves is_clean saves fails options n x
  is_last x (inl none) = inl none
  is_last x (inr (inl not)) = inr (inl not)
  is_last x (inr (inr many)) = inr (inr (inl many))
