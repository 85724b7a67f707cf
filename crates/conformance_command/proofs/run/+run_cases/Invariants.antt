use Rattle.std.proofs.Common.{length}
use Rattle.conformance_command.proofs.run.+run_cases.Given as goal

abbrev pub decreases-run_cases : goal.decreases-run_cases
decreases-run_cases g l = length l.cases.now
