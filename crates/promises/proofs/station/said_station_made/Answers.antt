use Rattle.promises.proofs.StationMaking.{said_station_made_lem}
use Rattle.promises.proofs.station.said_station_made.Goals as goal

pub returns : goal.returns
returns c = said_station_made_lem
