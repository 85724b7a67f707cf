use Rattle.uecp_link.proofs.Played.{headline}
use Rattle.uecp_link.proofs.laws.steps_keep_the_headline.Goals as goal

pub returns : goal.returns
returns g c = λ address opening events outcomes line o plays.
    headline g.T.Target.step g.T.Target.taken address opening events outcomes line o plays
