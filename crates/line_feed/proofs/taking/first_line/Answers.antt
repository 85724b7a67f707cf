use Rattle.line_feed.proofs.Splitting.{first_end, no_end_at_all}
use Rattle.line_feed.proofs.taking.first_line.Goals as goal

pub returns-in-Some : goal.returns-in-Some
returns-in-Some c = first_end c.args.bytes.now c.in-Some.place c.in-Some.ensures.0 c.in-Some.ensures.1

pub returns-in-None : goal.returns-in-None
returns-in-None c = no_end_at_all c.args.bytes.now c.in-None.ensures
