use Rattle.line_feed.proofs.Following.{first_lines}
use Rattle.line_feed.proofs.laws.takes_the_first_lines.Goals as goal

pub returns : goal.returns
returns c = first_lines
