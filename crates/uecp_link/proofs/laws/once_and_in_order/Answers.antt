use Rattle.uecp_link.proofs.Lawful.{law}
use Rattle.uecp_link.proofs.laws.once_and_in_order.Goals as goal

pub returns : goal.returns
returns g c = λ address opening events fit. law g.T.Target.step g.T.Target.taken address opening events fit
