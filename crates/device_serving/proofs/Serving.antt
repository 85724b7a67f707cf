-- A run of connections, one by one.
use Rattle.std.proofs.Common.{◌≡◌, ◌<◌, ℕ, ◌+◌, ◌-◌, suc, List, Option, Some, None, Ok, Err, refl, subst, inl, inr}
use Rattle.std.proofs.Common.{arith}
use Rattle.uecp_encoder.specs.Target.{Step}
use Rattle.uecp_encoder.specs.Keeping.{Kept}
use Rattle.uecp_encoder.specs.ServingWith.{Ended}
use Rattle.kept_jobs.specs.declared.stop.KeptStop.{KeptStop}
use Rattle.kept_jobs.specs.Stops.{Went}
use Rattle.kept_jobs.proofs.Public.{goes, stopped}
use Rattle.device_serving.specs.DeviceRun.{ended_so}
use Rattle.device_serving.specs.declared.log_lines.LogFault.{LogFault}
use Rattle.device_serving.specs.DeviceRun.{Standing, ServesNext, ServesFrom, went, went_after}

pub stops_after : (fault : Option LogFault) (ended : Ended) (stop : KeptStop) → stopped stop ≡ went fault
    → stopped stop ≡ went_after fault ended
stops_after None ended stop is = absurd (let no : stopped stop ≡ goes = is in cc)
stops_after (Some fault) ended stop is = is

pub goes_after : (fault : Option LogFault) (ended : Ended) → goes ≡ went fault
    → ended_so ended ≡ went_after fault ended
goes_after None ended is = refl
goes_after (Some fault) ended is = absurd (let no : goes ≡ went (Some fault) = is in cc)

module _ {V K C I O : Type 0} (most room : ℕ) (step : Step V) (leaves : K → Kept V → Type 0) (is_clean : K → Type 0)
    (saves fails : K → Kept V → K → Type 0) (opens : C → Option (I × O) → C → Type 0) (closes : C → I → O → C → Type 0)
    (remaining : I → Option (List ℕ)) (contents : O → Option (List ℕ)) (turns connections : ℕ)
    (start : Standing V K C) where
  abbrev Next : (x x' : Standing V K C) → Went → Type 0
  Next = ServesNext most room step leaves is_clean saves fails opens closes remaining contents turns

  abbrev From : (many : ℕ) → (x x' : Standing V K C) → Went → Type 0
  From = ServesFrom most room step leaves is_clean saves fails opens closes remaining contents turns

  -- so many connections were served: however it goes on with the others, so it went with all
  abbrev pub GoesOn : (before : ℕ) → (now : Standing V K C) → Type 0
  GoesOn before now = (x' : Standing V K C) (end : Went) → From (connections - before) now x' end
      → From connections start x' end

  pub begins : GoesOn 0 start
  begins x' end rest = subst (λ m. From m start x' end) (let q : connections - 0 ≡ connections = omega arith in q) rest

  module _ (before : ℕ) (now : Standing V K C) (within : before < connections) (goes_on : GoesOn before now) where
    pub one_more : (next : Standing V K C) → Next now next (Ok tt) → GoesOn (before + 1) next
    one_more next served x' end rest =
        goes_on x' end (subst (λ m. From m now x' end)
        (let q : suc (connections - (before + 1)) ≡ connections - before = omega (arith, within) in q)
        (inl (next, served, rest)))

    pub stops : (end : Standing V K C) (stop : KeptStop) → Next now end (Err stop)
        → From connections start end (Err stop)
    stops end stop served =
        goes_on end (Err stop) (subst (λ m. From m now end (Err stop))
        (let q : suc (connections - (before + 1)) ≡ connections - before = omega (arith, within) in q)
        (inr (stop, served, refl)))

  pub ends : (before : ℕ) (now : Standing V K C) → before ≡ connections → GoesOn before now
      → From connections start now (Ok tt)
  ends before now all goes_on =
      goes_on now (Ok tt) (subst (λ m. From m now now (Ok tt))
      (let q : 0 ≡ connections - before = omega (arith, all) in q) (refl, refl))
