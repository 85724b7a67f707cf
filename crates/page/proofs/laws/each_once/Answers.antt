use Rattle.page.proofs.Schedules.{each_once_lem}
use Rattle.page.proofs.laws.each_once.Goals as goal

pub returns : goal.returns
returns c = each_once_lem
