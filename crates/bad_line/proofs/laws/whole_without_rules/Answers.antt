use Rattle.bad_line.proofs.Whole.{whole_lem}
use Rattle.bad_line.proofs.laws.whole_without_rules.Goals as goal

pub returns : goal.returns
returns c = whole_lem
