use Rattle.rds_groups.proofs.Judging.{windows_are_judged}
use Rattle.rds_groups.proofs.laws.windows_are_judged.Goals as goal

pub returns : goal.returns
returns c = windows_are_judged
