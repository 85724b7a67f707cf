use Rattle.uecp_encoder.proofs.Joining.{whole_pass_is_replied_lem}
use Rattle.uecp_encoder.proofs.laws.whole_pass_is_replied.Goals as goal

pub returns : goal.returns
returns g c = whole_pass_is_replied_lem g.T.Target.step
