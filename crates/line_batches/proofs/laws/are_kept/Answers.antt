use Rattle.line_batches.proofs.Keeping.{are_kept}
use Rattle.line_batches.proofs.laws.are_kept.Goals as goal

pub returns : goal.returns
returns g c = are_kept g.F.Feed.remaining g.F.Feed.takes g.F.Feed.says g.F.Feed.passes
