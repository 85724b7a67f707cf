use Rattle.device_edges.proofs.Readings.{counted_whole}
use Rattle.device_edges.proofs.laws.counted_whole.Goals as goal

pub returns : goal.returns
returns c = λ left_out texts small. counted_whole texts left_out small
