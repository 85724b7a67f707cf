use Rattle.uecp_link.proofs.Using.{acknowledged_where_nothing_is_lost}
use Rattle.uecp_link.proofs.laws.acknowledged_where_nothing_is_lost.Goals as goal

pub returns : goal.returns
returns g c = λ address opening events fit. acknowledged_where_nothing_is_lost g.T.Target.step g.T.Target.taken address
    opening events fit
