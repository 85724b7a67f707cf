use Rattle.uecp_phrases.proofs.LineStops.{first_stop}
use Rattle.uecp_phrases.proofs.laws.first_stop.Goals as goal

pub returns : goal.returns
returns c = first_stop
