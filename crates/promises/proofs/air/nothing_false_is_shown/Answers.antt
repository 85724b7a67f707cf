use Rattle.promises.proofs.Starting.{nothing_false_is_shown}
use Rattle.promises.proofs.air.nothing_false_is_shown.Goals as goal

pub returns : goal.returns
returns c = nothing_false_is_shown
