use Rattle.page.proofs.Histories.{history_exactly}
use Rattle.page.proofs.laws.history_exactly.Goals as goal

pub returns : goal.returns
returns c = history_exactly
