use Rattle.promises.proofs.Happening.{told_by_events_lem}
use Rattle.promises.proofs.station.told_by_events.Goals as goal

pub returns : goal.returns
returns c = told_by_events_lem
