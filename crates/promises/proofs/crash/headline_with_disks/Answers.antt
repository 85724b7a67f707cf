use Rattle.promises.proofs.Holding.{headline_lem}
use Rattle.promises.proofs.crash.headline_with_disks.Goals as goal

pub returns : goal.returns
returns g c = headline_lem g.T.Target.step g.T.Target.taken
