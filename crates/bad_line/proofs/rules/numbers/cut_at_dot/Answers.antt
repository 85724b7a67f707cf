use Rattle.bad_line.proofs.Wording.{cut_first, cut_nowhere}
use Rattle.bad_line.proofs.rules.numbers.cut_at_dot.Goals as goal

pub returns-in-Some-clause-cut : goal.returns-in-Some-clause-cut
returns-in-Some-clause-cut c = cut_first 0x2E c.args.word.now c.in-Some.place c.in-Some.ensures.0 c.in-Some.ensures.1

pub returns-in-None-clause-whole : goal.returns-in-None-clause-whole
returns-in-None-clause-whole c = cut_nowhere 0x2E c.args.word.now c.in-None.ensures
