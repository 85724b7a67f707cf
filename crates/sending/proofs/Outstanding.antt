-- What is told of messages that are outstanding, as it is put down and written out.
use Rattle.std.proofs.Common.{◌≡◌, ℕ, List, Option, sym, inl, inr}
use Rattle.kept_jobs.specs.declared.stop.KeptStop.{KeptStop}
use Rattle.kept_jobs.specs.Stops.{Went, TellsKept}
use Rattle.kept_jobs.proofs.Public.{goes, stopped, goes_not_stopped}

-- what could not be told whole stops the run, whatever was to follow
pub told_off : (lines : List ℕ) (onward : Went) (held held' : Option (List ℕ)) (stop : KeptStop)
    → TellsKept lines goes held held' (stopped stop) → TellsKept lines onward held held' (stopped stop)
told_off lines onward held held' stop (inl (appends, is)) = absurd (goes_not_stopped stop (sym is))
told_off lines onward held held' stop (inr broken) = inr broken
