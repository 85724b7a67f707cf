use Rattle.page.proofs.Histories.{announced_exactly}
use Rattle.page.proofs.laws.announced_exactly.Goals as goal

pub returns : goal.returns
returns c = announced_exactly
