use Rattle.bad_line.proofs.RefusedRules.{no_span_of}
use Rattle.bad_line.proofs.rules.numbers.span_of.Goals as goal

pub returns-in-None-clause-other : goal.returns-in-None-clause-other
returns-in-None-clause-other c =
    no_span_of c.args.word.now c.long_span_of.result c.in-None.ensures.other c.long_span_of.ensures.other
