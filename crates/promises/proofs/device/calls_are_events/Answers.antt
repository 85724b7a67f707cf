use Rattle.promises.proofs.Days.{calls_lem}
use Rattle.promises.proofs.device.calls_are_events.Goals as goal

pub returns : goal.returns
returns g c = calls_lem g.T.Target.step g.T.Target.taken _ _ _ _ _ _
