use Rattle.page.proofs.Histories.{no_row_without_change}
use Rattle.page.proofs.laws.no_row_without_change.Goals as goal

pub returns : goal.returns
returns c = no_row_without_change
