use Rattle.rds_groups.proofs.Stations.{begins_anew}
use Rattle.rds_groups.proofs.laws.begins_anew.Goals as goal

pub returns : goal.returns
returns c = begins_anew
