use Rattle.promises.proofs.StationMaking.{station_made_lem}
use Rattle.promises.proofs.station.station_made.Goals as goal

pub returns : goal.returns
returns g c = station_made_lem g.T.Target.step g.T.Target.taken
