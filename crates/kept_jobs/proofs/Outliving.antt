-- What status a run has that stopped.
use Rattle.std.proofs.Common.{◌≡◌, ℕ, List, Option, Ok, Err, refl, sym, ap, subst, ◌∙◌, inl, inr}
use Rattle.uecp_text.specs.declared.run_fault.RunFault.TheVariants as run
use Rattle.kept_jobs.specs.declared.stop.KeptStop.{KeptStop}
use Rattle.kept_jobs.specs.declared.stop.KeptStop.TheVariants.{Run}
use Rattle.kept_jobs.specs.Stops.{Went, TellsKept, stop_status}

-- a run that goes on
abbrev pub goes : Went
goes = Ok tt

abbrev pub stopped : KeptStop → Went
stopped stop = Err stop

pub goes_not_stopped : (stop : KeptStop) → goes ≡ stopped stop → ⊥
goes_not_stopped stop is = cc

pub same_stop : (a b : KeptStop) → stopped a ≡ stopped b → a ≡ b
same_stop a b e = let same : Err a ≡ Err b = e in cc

pub same_status : (a b : KeptStop) → stop_status b ≡ 3 → stopped a ≡ stopped b → stop_status a ≡ 3
same_status a b three is = ap stop_status (same_stop a b is) ∙ three

-- what is told of a run that goes on is told whole
pub told_whole : (lines : List ℕ) (onward : Went) (held held' : Option (List ℕ))
    → TellsKept lines onward held held' goes
    → goes ≡ onward
told_whole lines onward held held' (inl (appends, is)) = is
told_whole lines onward held held' (inr (begins, inl is)) = absurd (goes_not_stopped (Run run.Writing) is)
told_whole lines onward held held' (inr (begins, inr is)) = absurd (goes_not_stopped (Run run.OutOfMemory) is)

-- what is told of a run that stops does not go on
pub told_stops : (lines : List ℕ) (stop : KeptStop) (held held' : Option (List ℕ)) (went : Went)
    → TellsKept lines (stopped stop) held held' went → goes ≡ went → ⊥
told_stops lines stop held held' went tells is =
    goes_not_stopped stop (told_whole lines (stopped stop) held held'
    (subst (TellsKept lines (stopped stop) held held') (sym is) tells))

-- a run that stopped where it told something has the status of that, or of memory or writing
pub told_status : (lines : List ℕ) (onward : Went) (held held' : Option (List ℕ)) (stop : KeptStop)
    → (stopped stop ≡ onward → stop_status stop ≡ 3) → TellsKept lines onward held held' (stopped stop)
    → stop_status stop ≡ 3
told_status lines onward held held' stop three (inl (appends, is)) = three is
told_status lines onward held held' stop three (inr (begins, inl is)) = same_status stop (Run run.Writing) refl is
told_status lines onward held held' stop three (inr (begins, inr is)) = same_status stop (Run run.OutOfMemory) refl is
