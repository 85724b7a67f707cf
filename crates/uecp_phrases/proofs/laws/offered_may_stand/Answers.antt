use Rattle.uecp_phrases.proofs.Nearing.{offered_may_stand}
use Rattle.uecp_phrases.proofs.laws.offered_may_stand.Goals as goal

pub returns : goal.returns
returns c = offered_may_stand
