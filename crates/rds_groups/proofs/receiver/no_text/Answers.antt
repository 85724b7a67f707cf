use Rattle.rds_groups.proofs.Lines.{nothing_in}
use Rattle.rds_groups.proofs.receiver.no_text.Goals as goal

pub returns : goal.returns
returns c = nothing_in 64
