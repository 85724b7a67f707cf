use Rattle.promises.proofs.Holding.{crashes_lem}
use Rattle.promises.proofs.crash.crashes_are_line_events.Goals as goal

pub returns : goal.returns
returns g c = crashes_lem g.T.Target.step g.T.Target.taken
