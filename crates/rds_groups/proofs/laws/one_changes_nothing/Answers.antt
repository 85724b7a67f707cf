use Rattle.rds_groups.proofs.Stations.{one_changes_nothing}
use Rattle.rds_groups.proofs.laws.one_changes_nothing.Goals as goal

pub returns : goal.returns
returns c = one_changes_nothing
