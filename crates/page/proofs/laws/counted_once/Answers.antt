use Rattle.page.proofs.Cards.{counted_once}
use Rattle.page.proofs.laws.counted_once.Goals as goal

pub returns : goal.returns
returns c = counted_once
