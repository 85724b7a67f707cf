use Rattle.rds_text.proofs.Inverse.{one_byte}
use Rattle.rds_text.proofs.laws.one_byte.Goals as goal

pub returns : goal.returns
returns c = one_byte
