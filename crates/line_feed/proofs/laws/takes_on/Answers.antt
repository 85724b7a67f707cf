use Rattle.line_feed.proofs.Following.{taken_on}
use Rattle.line_feed.proofs.laws.takes_on.Goals as goal

pub returns : goal.returns
returns c = taken_on
