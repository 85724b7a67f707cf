use Rattle.uecp_text.specs.Words.{words}
use Rattle.bad_line.proofs.RefusedRules.{no_delay}
use Rattle.bad_line.proofs.rules.spelled_rule.delay.Goals as goal

pub returns-in-None-clause-other : goal.returns-in-None-clause-other
returns-in-None-clause-other c = no_delay (words c.args.text.now) c.in-None.ensures.other
