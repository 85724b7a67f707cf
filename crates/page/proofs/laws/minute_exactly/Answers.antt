use Rattle.page.proofs.Minutes.{minute_exactly}
use Rattle.page.proofs.laws.minute_exactly.Goals as goal

pub returns : goal.returns
returns c = minute_exactly
