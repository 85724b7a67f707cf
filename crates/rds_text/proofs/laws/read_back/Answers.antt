use Rattle.rds_text.proofs.ReadBack.{read_back}
use Rattle.rds_text.proofs.laws.read_back.Goals as goal

pub returns : goal.returns
returns c = read_back
