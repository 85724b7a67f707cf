use Rattle.uecp_net.proofs.GoingOn.{goes_on_as_it_was_lem}
use Rattle.uecp_net.proofs.laws.goes_on_as_it_was.Goals as goal

pub returns : goal.returns
returns c = goes_on_as_it_was_lem
