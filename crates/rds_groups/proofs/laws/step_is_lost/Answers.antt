use Rattle.rds_groups.proofs.Losing.{step_is_lost}
use Rattle.rds_groups.proofs.laws.step_is_lost.Goals as goal

pub returns : goal.returns
returns c = step_is_lost
