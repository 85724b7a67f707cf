-- A run of batches, one by one.
use Rattle.std.proofs.Common.{◌≡◌, ◌≢◌, ℕ, suc, List, [], take, drop, Option, Ok, Err, refl, inl, inr}
use Rattle.uecp_net.specs.Sending.{SenderOver}
use Rattle.uecp_net.specs.Keeping.{KeptServer}
use Rattle.kept_jobs.specs.declared.stop.KeptStop.{KeptStop}
use Rattle.kept_jobs.specs.Stops.{Went}
use Rattle.kept_jobs.specs.ServerRun.{Standing}
use Rattle.state_jobs.proofs.Steps.{SendsTold, SendsOut}

module _ {C I O K : Type 0} (opens : C → Option (I × O) → C → Type 0) (closes : C → I → O → C → Type 0)
    (remaining : I → Option (List ℕ)) (contents : O → Option (List ℕ)) (leaves : K → KeptServer → Type 0)
    (is_clean : K → Type 0) (saves fails : K → KeptServer → K → Type 0) (size : ℕ) (messages : List (List ℕ))
    (start : Standing (SenderOver C I O) K) where
  abbrev At : Type 0
  At = Standing (SenderOver C I O) K

  abbrev Batch : (batch : List (List ℕ)) → (x x' : At) → Went → Type 0
  Batch = SendsTold opens closes remaining contents leaves is_clean saves fails

  abbrev Out : (batches : ℕ) → (messages : List (List ℕ)) → (x x' : At) → Went → Type 0
  Out = SendsOut opens closes remaining contents leaves is_clean saves fails size

  -- some first batches were sent: however it goes on with the rest, so it went with all
  abbrev pub GoesOn : (rest : List (List ℕ)) → (now : At) → Type 0
  GoesOn rest now = (x' : At) (went : Went) (n : ℕ) → Out n rest now x' went
      → (all : ℕ) × Out all messages start x' went

  pub begins : GoesOn messages start
  begins x' went n out = (n, out)

  module _ (rest : List (List ℕ)) (now : At) (goes_on : GoesOn rest now) where
    pub one_more : rest ≢ [] → (next : At) → Batch (take size rest) now next (Ok tt) → GoesOn (drop size rest) next
    one_more some next sent x' went n out = goes_on x' went (suc n) (some, inl (next, sent, out))

    pub stops : rest ≢ [] → (end : At) (stop : KeptStop) → Batch (take size rest) now end (Err stop)
        → (all : ℕ) × Out all messages start end (Err stop)
    stops some end stop sent = goes_on end (Err stop) 1 (some, inr (stop, sent, refl))

    pub ends : rest ≡ [] → (all : ℕ) × Out all messages start now (Ok tt)
    ends none = goes_on now (Ok tt) 0 (none, refl, refl)
