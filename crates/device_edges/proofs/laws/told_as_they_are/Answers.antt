use Rattle.device_edges.proofs.Readings.{told_as_they_are}
use Rattle.device_edges.proofs.laws.told_as_they_are.Goals as goal

pub returns : goal.returns
returns c = told_as_they_are
