use Rattle.line_feed.proofs.Following.{next_taken}
use Rattle.line_feed.proofs.laws.takes_one_by_one.Goals as goal

pub returns : goal.returns
returns c = next_taken
