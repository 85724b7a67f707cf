use Rattle.page.proofs.Stale.{health_exactly}
use Rattle.page.proofs.laws.health_exactly.Goals as goal

pub returns : goal.returns
returns c = health_exactly
