use Rattle.promises.proofs.Numbers.{numbered_lem}
use Rattle.promises.proofs.line.each_is_numbered.Goals as goal

pub returns : goal.returns
returns g c = numbered_lem g.T.Target.step g.T.Target.taken
