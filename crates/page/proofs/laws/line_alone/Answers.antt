use Rattle.page.proofs.Cards.{line_alone}
use Rattle.page.proofs.laws.line_alone.Goals as goal

pub returns : goal.returns
returns c = line_alone
