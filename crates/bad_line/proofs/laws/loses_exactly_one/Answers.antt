use Rattle.bad_line.proofs.Whole.{loses_one_lem}
use Rattle.bad_line.proofs.laws.loses_exactly_one.Goals as goal

pub returns : goal.returns
returns c = loses_one_lem
