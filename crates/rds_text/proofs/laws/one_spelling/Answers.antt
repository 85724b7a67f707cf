use Rattle.rds_text.proofs.ReadBack.{one_spelling}
use Rattle.rds_text.proofs.laws.one_spelling.Goals as goal

pub returns : goal.returns
returns c = one_spelling
