use Rattle.uecp_encoder.proofs.Surviving.{loses_nothing_lem}
use Rattle.uecp_encoder.proofs.laws.loses_nothing.Goals as goal

pub returns : goal.returns
returns g c = loses_nothing_lem g.T.Target.step
