use Rattle.rds_groups.proofs.Finding.{each_group_is_found}
use Rattle.rds_groups.proofs.laws.each_group_is_found.Goals as goal

pub returns : goal.returns
returns c = each_group_is_found
