use Rattle.page.proofs.Stale.{stale_exactly}
use Rattle.page.proofs.laws.stale_exactly.Goals as goal

pub returns : goal.returns
returns c = stale_exactly
