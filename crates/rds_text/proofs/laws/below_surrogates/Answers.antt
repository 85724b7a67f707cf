use Rattle.rds_text.proofs.Inverse.{small}
use Rattle.rds_text.proofs.laws.below_surrogates.Goals as goal

pub returns : goal.returns
returns c = small
