use Rattle.line_batches.proofs.Seeing.{was_there}
use Rattle.line_batches.proofs.laws.was_there.Goals as goal

pub returns : goal.returns
returns g c = was_there g.F.Feed.remaining g.F.Feed.takes g.F.Feed.says g.F.Feed.passes
