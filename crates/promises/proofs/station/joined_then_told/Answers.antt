use Rattle.promises.proofs.StationMaking.{joined_then_told_lem}
use Rattle.promises.proofs.station.joined_then_told.Goals as goal

pub returns : goal.returns
returns c = joined_then_told_lem
