use Rattle.promises.proofs.Both.{station_is_independent_lem}
use Rattle.promises.proofs.station.station_is_independent.Goals as goal

pub returns : goal.returns
returns c = station_is_independent_lem
