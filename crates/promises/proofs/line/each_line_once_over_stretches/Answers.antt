use Rattle.promises.proofs.EachLine.{over_stretches_lem}
use Rattle.promises.proofs.line.each_line_once_over_stretches.Goals as goal

pub returns : goal.returns
returns g c = over_stretches_lem g.T.Target.step g.T.Target.taken
