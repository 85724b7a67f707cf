use Rattle.uecp_encoder.proofs.Ordering.{applied_once_lem}
use Rattle.uecp_encoder.proofs.laws.applied_once.Goals as goal

pub returns : goal.returns
returns g c = applied_once_lem g.T.Target.step
