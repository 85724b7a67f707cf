use Rattle.page.proofs.Schedules.{owed_newer_lem}
use Rattle.page.proofs.laws.owed_newer.Goals as goal

pub returns : goal.returns
returns c = owed_newer_lem
