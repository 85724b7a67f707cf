use Rattle.line_feed.proofs.Splitting.{has_line}
use Rattle.line_feed.proofs.taking.has_line.Goals as goal

pub returns-in-Some-clause-line : goal.returns-in-Some-clause-line
returns-in-Some-clause-line c = λ is. has_line c.args.bytes.now c.in-Some.field-0 c.in-Some.ensures
