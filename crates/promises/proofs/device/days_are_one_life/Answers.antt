use Rattle.promises.proofs.Days.{days_lem}
use Rattle.promises.proofs.device.days_are_one_life.Goals as goal

pub returns : goal.returns
returns g c = days_lem g.T.Target.step g.T.Target.taken
