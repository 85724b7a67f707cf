use Rattle.uecp_link.proofs.Lawful.{law_from}
use Rattle.uecp_link.proofs.laws.once_and_in_order_from.Goals as goal

pub returns : goal.returns
returns g c = law_from g.T.Target.step g.T.Target.taken
