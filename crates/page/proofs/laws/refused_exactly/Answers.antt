use Rattle.page.proofs.Refused.{refused_exactly}
use Rattle.page.proofs.laws.refused_exactly.Goals as goal

pub returns : goal.returns
returns c = refused_exactly
