use Rattle.page.proofs.Ends.{one_end}
use Rattle.page.proofs.laws.one_end.Goals as goal

pub returns : goal.returns
returns c = one_end
