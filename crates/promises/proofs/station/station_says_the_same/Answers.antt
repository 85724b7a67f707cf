use Rattle.promises.proofs.Both.{station_says_the_same_lem}
use Rattle.promises.proofs.station.station_says_the_same.Goals as goal

pub returns : goal.returns
returns c = station_says_the_same_lem
