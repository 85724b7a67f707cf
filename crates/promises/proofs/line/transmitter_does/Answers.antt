use Rattle.promises.proofs.Doings.{days_lem}
use Rattle.promises.proofs.line.transmitter_does.Goals as goal

pub returns : goal.returns
returns g c = days_lem g.T.Target.step g.T.Target.taken
