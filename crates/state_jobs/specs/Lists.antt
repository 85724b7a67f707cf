-- Messages that are all there before the first is sent, as where batches come from (profile).
use Rattle.std.specs.Prelude.{◌≡◌, ◌≢◌, ℕ, List, [], take, drop, Option, Some, None, Result, Ok, Err}
use Rattle.uecp_text.specs.declared.run_fault.RunFault.{RunFault}
use Rattle.line_batches.specs.declared.taking.After.{After}
use Rattle.line_batches.specs.declared.taking.After.TheVariants.{GoesOn, Ends}

-- Those that are left, and how the run ends behind them.
pub record Listing : Type 0 where
  pub left : List (List ℕ)
  pub ends : Result (Unit {0}) RunFault

-- how a run ends behind the messages of an input of which this is refused, if anything is
abbrev pub ended_by : Option RunFault → Result (Unit {0}) RunFault
ended_by None = Ok tt
ended_by (Some fault) = Err fault

-- What comes after some of them: the next, where some are left; else the run ends so.
abbrev pub ComesAfter : After → (x x' : Listing) → Type 0
ComesAfter GoesOn x x' = (x'.left ≢ []) × (x'.ends ≡ x.ends)
ComesAfter (Ends end) x x' = (x'.left ≡ []) × (end ≡ x.ends)

-- The first of them are taken, up to so many.
abbrev pub FromList : (size : ℕ) → (messages : List (List ℕ)) → After → (x x' : Listing) → Type 0
FromList size messages after x x' =
    (messages ≡ take size x.left) × (x'.left ≡ drop size x.left) × ComesAfter after x x'

-- Messages that are all there: where their taking stands, and the batch that was taken last.
pub record Listed : Type 0 where
  pub at : Listing
  pub batch : List (List ℕ)
