use Rattle.sqlite_image.proofs.LogLemmas.{place_first}
use Rattle.sqlite_image.proofs.log.start.Goals as goal

pub returns-clause-place : goal.returns-clause-place
returns-clause-place c size = place_first size c.args.log.now c.sum_at.result c.requires c.sum_at.ensures
