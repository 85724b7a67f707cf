use Rattle.uecp_text.specs.Words.{words}
use Rattle.bad_line.proofs.RefusedRules.{no_time_told, no_time_from, no_time_at_all}
use Rattle.bad_line.proofs.rules.spelled_rule.time_from.Goals as goal

pub returns-in-None-from_of-clause-other : goal.returns-in-None-from_of-clause-other
returns-in-None-from_of-clause-other c =
    no_time_from (words c.args.text.now) (words c.in-Some.rest.now) c.in-Some.word.now c.in-Some.ensures.word
    c.in-None-from_of.ensures.other

pub returns-in-None-time_of-clause-other : goal.returns-in-None-time_of-clause-other
returns-in-None-time_of-clause-other c =
    no_time_told (words c.args.text.now) (words c.in-Some.rest.now) c.in-Some.word.now c.in-Some.ensures.word
    c.in-None-time_of.ensures.other

pub returns-in-None-clause-other : goal.returns-in-None-clause-other
returns-in-None-clause-other c = no_time_at_all (words c.args.text.now) c.in-None.ensures.none
