use Rattle.promises.proofs.StationAnswering.{said_station_is_applied_lem}
use Rattle.promises.proofs.station.said_station_is_applied.Goals as goal

pub returns : goal.returns
returns c = said_station_is_applied_lem
