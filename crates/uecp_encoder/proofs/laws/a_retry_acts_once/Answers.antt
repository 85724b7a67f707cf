use Rattle.uecp_encoder.proofs.Repeating.{retry_acts_once_lem}
use Rattle.uecp_encoder.proofs.laws.a_retry_acts_once.Goals as goal

pub returns : goal.returns
returns g c = retry_acts_once_lem g.T.Target.step
