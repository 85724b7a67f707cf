use Rattle.promises.proofs.OneTry.{one_try_lem}
use Rattle.promises.proofs.line.one_try_is_enough.Goals as goal

pub returns : goal.returns
returns g c = one_try_lem g.T.Target.step g.T.Target.taken
