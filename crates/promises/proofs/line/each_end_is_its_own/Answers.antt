use Rattle.promises.proofs.EachLine.{own_lem}
use Rattle.promises.proofs.line.each_end_is_its_own.Goals as goal

pub returns : goal.returns
returns g c = own_lem g.T.Target.step g.T.Target.taken
