use Rattle.uecp_text.specs.Words.{words}
use Rattle.bad_line.proofs.RefusedRules.{no_chance, no_chance_from, no_chance_at_all}
use Rattle.bad_line.proofs.rules.spelled_rule.chance_from.Goals as goal

pub returns-in-None-from_of-clause-other : goal.returns-in-None-from_of-clause-other
returns-in-None-from_of-clause-other c =
    no_chance_from (words c.args.text.now) (words c.in-Some.rest.now) c.in-Some.word.now c.in-Some.ensures.word
    c.in-None-from_of.ensures.other

pub returns-in-None-chance_of-clause-other : goal.returns-in-None-chance_of-clause-other
returns-in-None-chance_of-clause-other c =
    no_chance (words c.args.text.now) (words c.in-Some.rest.now) c.in-Some.word.now c.in-Some.ensures.word
    c.in-None-chance_of.ensures.other

pub returns-in-None-clause-other : goal.returns-in-None-clause-other
returns-in-None-clause-other c = no_chance_at_all (words c.args.text.now) c.in-None.ensures.none
