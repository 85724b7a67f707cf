use Rattle.uecp_text.specs.Words.{words}
use Rattle.bad_line.proofs.RefusedRules.{no_refusal, no_refusal_time}
use Rattle.bad_line.proofs.rules.spelled_rule.refusal.Goals as goal

pub returns-in-None-time_of-clause-other : goal.returns-in-None-time_of-clause-other
returns-in-None-time_of-clause-other c =
    no_refusal_time (words c.args.text.now) c.in-Some.word.now c.in-Some.ensures.word c.in-None-time_of.ensures.other

pub returns-in-None-clause-other : goal.returns-in-None-clause-other
returns-in-None-clause-other c = no_refusal (words c.args.text.now) c.in-None.ensures.other
