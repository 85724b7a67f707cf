use Rattle.uecp_frame.specs.Findings.{found}
use Rattle.conformance.proofs.Judged.{kept_exactly}
use Rattle.conformance.proofs.comparison.judge.Goals as goal

pub returns-clause-kept : goal.returns-clause-kept
returns-clause-kept c =
    kept_exactly c.args.own c.args.wanted.now (found c.args.came.now) c.first_difference.result
    c.first_difference.ensures
