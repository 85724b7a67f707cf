use Rattle.rds_groups.proofs.Finding.{step_is_kept}
use Rattle.rds_groups.proofs.laws.step_is_kept.Goals as goal

pub returns : goal.returns
returns c = step_is_kept
