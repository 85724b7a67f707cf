use Rattle.bad_line.proofs.rules.numbers.chance_of.Goals as goal

pub returns-in-None-clause-other : goal.returns-in-None-clause-other
returns-in-None-clause-other c = λ percent chance. c.in-None.ensures.other percent chance.0
