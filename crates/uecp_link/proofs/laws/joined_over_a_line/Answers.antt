use Rattle.uecp_link.proofs.JoinedOver.{joins_over_a_line_lem}
use Rattle.uecp_link.proofs.laws.joined_over_a_line.Goals as goal

pub returns : goal.returns
returns g c = joins_over_a_line_lem g.T.Target.step
