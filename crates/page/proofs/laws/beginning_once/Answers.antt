use Rattle.page.proofs.Schedules.{beginning_once_lem}
use Rattle.page.proofs.laws.beginning_once.Goals as goal

pub returns : goal.returns
returns c = beginning_once_lem
