use Rattle.line_batches.proofs.Seeing.{is_seen}
use Rattle.line_batches.proofs.laws.is_seen.Goals as goal

pub returns : goal.returns
returns g c = is_seen g.F.Feed.remaining g.F.Feed.takes g.F.Feed.says g.F.Feed.passes
