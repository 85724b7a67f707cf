use Rattle.uecp_link.proofs.Played.{headline_from}
use Rattle.uecp_link.proofs.laws.steps_keep_the_headline_from.Goals as goal

pub returns : goal.returns
returns g c = headline_from g.T.Target.step g.T.Target.taken
