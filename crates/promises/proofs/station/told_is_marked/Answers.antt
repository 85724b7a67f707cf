use Rattle.promises.proofs.StationHearing.{told_is_marked_lem}
use Rattle.promises.proofs.station.told_is_marked.Goals as goal

pub returns : goal.returns
returns g c = told_is_marked_lem g.T.Target.step g.T.Target.taken
