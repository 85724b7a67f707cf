use Rattle.page.proofs.Lives.{whole_life_lem}
use Rattle.page.proofs.laws.whole_life.Goals as goal

pub returns : goal.returns
returns c = whole_life_lem
