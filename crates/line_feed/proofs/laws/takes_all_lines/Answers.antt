use Rattle.line_feed.proofs.Following.{all_lines}
use Rattle.line_feed.proofs.laws.takes_all_lines.Goals as goal

pub returns : goal.returns
returns c = all_lines
