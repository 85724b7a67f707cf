use Rattle.rds_text.proofs.Names.{named_once}
use Rattle.rds_text.proofs.laws.named_once.Goals as goal

pub returns : goal.returns
returns c = named_once
