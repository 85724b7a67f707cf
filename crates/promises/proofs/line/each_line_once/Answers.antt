use Rattle.promises.proofs.EachLine.{each_line_once_lem}
use Rattle.promises.proofs.line.each_line_once.Goals as goal

pub returns : goal.returns
returns g c = each_line_once_lem g.T.Target.step g.T.Target.taken
