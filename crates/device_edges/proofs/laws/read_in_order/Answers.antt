use Rattle.device_edges.proofs.Readings.{read_in_order}
use Rattle.device_edges.proofs.laws.read_in_order.Goals as goal

pub returns : goal.returns
returns c = read_in_order
