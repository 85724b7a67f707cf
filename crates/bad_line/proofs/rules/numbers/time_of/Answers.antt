use Rattle.bad_line.proofs.RefusedRules.{no_time}
use Rattle.bad_line.proofs.rules.numbers.time_of.Goals as goal

pub returns-in-None-count_before-clause-other : goal.returns-in-None-count_before-clause-other
returns-in-None-count_before-clause-other c =
    no_time c.args.word.now c.in-None.ensures.other c.in-None-count_before.ensures.other
