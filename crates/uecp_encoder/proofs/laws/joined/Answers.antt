use Rattle.uecp_encoder.proofs.Joining.{joins_lem}
use Rattle.uecp_encoder.proofs.laws.joined.Goals as goal

pub returns : goal.returns
returns g c = joins_lem g.T.Target.step
