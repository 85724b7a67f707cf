use Rattle.page.proofs.Cards.{line_once}
use Rattle.page.proofs.laws.line_once.Goals as goal

pub returns : goal.returns
returns c = line_once
