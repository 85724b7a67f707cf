use Rattle.uecp_encoder.proofs.Surviving.{doubles_nothing_lem}
use Rattle.uecp_encoder.proofs.laws.doubles_nothing.Goals as goal

pub returns : goal.returns
returns g c = doubles_nothing_lem g.T.Target.step
