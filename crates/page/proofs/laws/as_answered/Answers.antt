use Rattle.page.proofs.Ends.{as_answered}
use Rattle.page.proofs.laws.as_answered.Goals as goal

pub returns : goal.returns
returns c = as_answered
