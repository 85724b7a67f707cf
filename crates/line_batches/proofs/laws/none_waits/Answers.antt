use Rattle.line_batches.proofs.Seeing.{none_waits}
use Rattle.line_batches.proofs.laws.none_waits.Goals as goal

pub returns : goal.returns
returns g c = none_waits g.F.Feed.remaining g.F.Feed.takes g.F.Feed.says g.F.Feed.passes
