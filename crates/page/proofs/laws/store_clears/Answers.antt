use Rattle.page.proofs.Cards.{store_clears}
use Rattle.page.proofs.laws.store_clears.Goals as goal

pub returns : goal.returns
returns c = store_clears
