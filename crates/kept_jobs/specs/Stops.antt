-- Why runs with kept state stop, and what they tell (profile).
use Rattle.std.specs.Prelude.{◌≡◌, ◌⊎◌, ◌==◌, ◌&&◌, ℕ, Bool, List, ◌++◌, codes, Option, Result, Ok, Err}
use Rattle.std.specs.Prelude.{if◌then◌else◌}
use Rattle.std.specs.Io.KnownBytes.{Appends}
use Rattle.uecp_text.specs.declared.run_fault.RunFault.TheVariants as run
use Rattle.uecp_text.specs.Faults.{status_of, error_lines}
use Rattle.uecp_text.specs.Written.{Begins}
use Rattle.uecp_link.specs.declared.counts.ServerCounts.{ServerCounts}
use Rattle.uecp_net.specs.declared.sender.Outstanding.{Outstanding}
use Rattle.uecp_net.specs.declared.sender.Outstanding.TheVariants.{TriesSpent, ConnectionFailed}
use Rattle.kept_jobs.specs.declared.stop.KeptStop.{KeptStop}
use Rattle.kept_jobs.specs.declared.stop.KeptStop.TheVariants.{Run, Unanswered, StateFailed}

-- How a run went, so far: it goes on, or it stopped for this.
abbrev pub Went : Type 0
Went = Result (Unit {0}) KeptStop

-- the line of a state that can't be kept
abbrev pub state_line : (text : List ℕ) → List ℕ
state_line text = codes "uecp: " ++ text ++ codes "\n"

-- the exit status: that of a run without a state; and 3 where a state failed or the encoder answers nothing
abbrev pub stop_status : KeptStop → ℕ
stop_status (Run fault) = status_of fault
stop_status Unanswered = 3
stop_status StateFailed = 3

-- what is said on standard error
abbrev pub stop_lines : KeptStop → List ℕ
stop_lines (Run fault) = error_lines fault
stop_lines Unanswered =
    state_line (codes "the encoder answers nothing: if it is new or lost its state, begin anew with --join")
stop_lines StateFailed = state_line (codes "state failed")

-- whether nothing was heard that is counted: no reply, no other frame and no noise
abbrev pub heard_nothing : ServerCounts → Bool
heard_nothing counts = counts.acknowledged == 0 && (counts.stray == 0 && counts.dropped == 0)

-- why a run stops whose messages are outstanding for this reason, where the server counted so much
abbrev pub stop_for : ServerCounts → Outstanding → KeptStop
stop_for counts TriesSpent = if heard_nothing counts then Unanswered else Run run.Outstanding
stop_for counts ConnectionFailed = Run run.Connection

-- The writer got these lines, and then the run went so. Or memory or writing failed: it got a beginning of them.
abbrev pub TellsKept : (lines : List ℕ) → (onward : Went) → (held held' : Option (List ℕ)) → Went → Type 0
TellsKept lines onward held held' went =
    (Appends held held' lines × (went ≡ onward)) ⊎ (Begins held held' lines
    × ((went ≡ Err (Run run.Writing)) ⊎ (went ≡ Err (Run run.OutOfMemory))))

-- The first of two things was done, and then the second from where that ended; or the run stopped at the first.
abbrev pub Then : {X : Type 0} → (first second : X → X → Went → Type 0) → X → X → Went → Type 0
Then {X} first second x x' went =
    ((y : X) × first x y (Ok tt) × second y x' went)
    ⊎ ((stop : KeptStop) × first x x' (Err stop) × (went ≡ Err stop))
