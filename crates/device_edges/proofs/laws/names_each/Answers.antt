use Rattle.device_edges.proofs.Namings.{names_each}
use Rattle.device_edges.proofs.laws.names_each.Goals as goal

pub returns : goal.returns
returns c = names_each
