use Rattle.promises.proofs.Saying.{toggles_stay_set}
use Rattle.promises.proofs.air.toggles_stay_set.Goals as goal

pub returns : goal.returns
returns c = toggles_stay_set
