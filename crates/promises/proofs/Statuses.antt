-- The exit statuses of runs that stop.
use Rattle.std.proofs.Common.{◌≡◌, ◌⊎◌, ℕ, Bool, true, false, List, Option, Ok, Err, if◌then◌else◌, refl, sym, ap}
use Rattle.std.proofs.Common.{inl, inr}
use Rattle.line_batches.specs.declared.intake.Input.{Input}
use Rattle.uecp_text.specs.declared.run_fault.RunFault.{RunFault}
use Rattle.uecp_text.specs.declared.run_fault.RunFault.TheVariants as run
use Rattle.uecp_text.specs.Faults.{status_of}
use Rattle.uecp_link.specs.declared.counts.ServerCounts.{ServerCounts}
use Rattle.uecp_net.specs.declared.sender.Outstanding.{Outstanding}
use Rattle.uecp_net.specs.declared.sender.Outstanding.TheVariants.{TriesSpent, ConnectionFailed}
use Rattle.uecp_jobs.specs.Batches.{fault_of}
use Rattle.uecp_net.specs.declared.sender.Settled.{Settled}
use Rattle.uecp_net.specs.declared.saved.batch.KeptOutstanding.TheVariants as kept
use Rattle.uecp_net.specs.SavedSending.{Ended}
use Rattle.uecp_net.specs.SavedJoining.{Joined}
use Rattle.kept_jobs.specs.declared.stop.KeptStop.{KeptStop}
use Rattle.kept_jobs.specs.declared.stop.KeptStop.TheVariants.{Run, Unanswered, StateFailed}
use Rattle.kept_jobs.specs.Stops.{TellsKept, stop_status, stop_for, heard_nothing}
use Rattle.kept_jobs.proofs.Public.{goes, stopped, goes_not_stopped, same_status, told_status}
use Rattle.line_batches.specs.Intake.{Intake, FailsToTake}
use Rattle.line_batches.specs.Batches.{LeavesLine}
use Rattle.output_forms.specs.declared.form.Form.{Form}
use Rattle.sending.specs.Forms.{not_joined_in}
use Rattle.sending.specs.declared.account.Account.TheVariants.{Numbered}
use Rattle.sending.specs.Run.{AnswersTold, tally_status}
use Rattle.sending.specs.Station.{JoinedTold}

-- a run that goes on did not stop
pub not_so : (stop : KeptStop) → stopped stop ≡ goes → stop_status stop ≡ 3
not_so stop is = absurd (goes_not_stopped stop (sym is))

-- what is told of a run that goes on stops it with status 3 alone
pub telling_status : (lines : List ℕ) (held held' : Option (List ℕ)) (stop : KeptStop)
    → TellsKept lines goes held held' (stopped stop) → stop_status stop ≡ 3
telling_status lines held held' stop tells = told_status lines goes held held' stop (not_so stop) tells

stop_for_status : (counts : ServerCounts) (reason : Outstanding) → stop_status (stop_for counts reason) ≡ 3
stop_for_status counts TriesSpent = by (heard_nothing counts)
  where
    by : (b : Bool) → stop_status (if b then Unanswered else Run run.Outstanding) ≡ 3
    by true = refl
    by false = refl
stop_for_status counts ConnectionFailed = refl

fault_status : (reason : Outstanding) → stop_status (Run (fault_of reason)) ≡ 3
fault_status TriesSpent = refl
fault_status ConnectionFailed = refl

pub answers_status : (form : Form) (are_told : Settled → List ℕ → Type 0) (counts : ServerCounts) (ended : Ended)
    (held held' : Option (List ℕ)) (stop : KeptStop) → AnswersTold (Numbered form) are_told counts ended held held'
    (stopped stop)
    → stop_status stop ≡ 3
answers_status form are_told counts (Ok settled) held held' stop (told, are, tells) =
    telling_status told held held' stop tells
answers_status form are_told counts (Err (kept.Outstanding reason)) held held' stop (same, is) =
    same_status stop (stop_for counts reason) (stop_for_status counts reason) is
answers_status form are_told counts (Err kept.StateFailed) held held' stop (same, is) =
    same_status stop StateFailed refl is

pub joined_status : (form : Form) (lines : List ℕ) (joined : Joined) (held held' : Option (List ℕ)) (stop : KeptStop)
    → JoinedTold form lines joined held held' (stopped stop) → stop_status stop ≡ 3
joined_status form lines (Ok done) held held' stop tells = telling_status lines held held' stop tells
joined_status form lines (Err (kept.Outstanding reason)) held held' stop tells =
    told_status (not_joined_in form) (stopped (Run (fault_of reason))) held held' stop
    (same_status stop (Run (fault_of reason)) (fault_status reason)) tells
joined_status form lines (Err kept.StateFailed) held held' stop (same, is) = same_status stop StateFailed refl is

-- a read that fails, and want of memory, have status 3
pub taking_status : (input : Input) (x x' : Intake) (fault : RunFault)
    → FailsToTake x x' fault ⊎ LeavesLine input x x' fault → stop_status (Run fault) ≡ 3
taking_status input x x' fault (inr (line, given, taken, inl (is, is_message))) = ap status_of is
taking_status input x x' fault (inr (line, given, taken, inr (is, refused))) = ap status_of is
taking_status input x x' run.Reading (inl fails) = refl
taking_status input x x' run.OutOfMemory (inl fails) = refl
taking_status input x x' fault (inl (stays, fails)) = absurd fails

-- a run that came to its end has not the status 3
pub tally_not : (refused applied : Bool) → tally_status refused applied ≡ 3 → ⊥
tally_not true applied is = cc
tally_not false true is = cc
tally_not false false is = cc
