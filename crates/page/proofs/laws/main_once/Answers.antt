use Rattle.page.proofs.Mains.{main_once}
use Rattle.page.proofs.laws.main_once.Goals as goal

pub returns : goal.returns
returns c = main_once
