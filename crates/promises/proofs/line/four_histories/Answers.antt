use Rattle.promises.proofs.Histories.{histories_lem}
use Rattle.promises.proofs.line.four_histories.Goals as goal

pub returns : goal.returns
returns c = histories_lem
