use Rattle.uecp_phrases.proofs.Alike.{traffic_switches}
use Rattle.uecp_phrases.proofs.laws.traffic_switches.Goals as goal

pub returns : goal.returns
returns c = traffic_switches
