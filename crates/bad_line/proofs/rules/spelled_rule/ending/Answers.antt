use Rattle.uecp_text.specs.Words.{words}
use Rattle.bad_line.proofs.RefusedRules.{no_ending}
use Rattle.bad_line.proofs.rules.spelled_rule.ending.Goals as goal

pub returns-in-None-clause-other : goal.returns-in-None-clause-other
returns-in-None-clause-other c = no_ending (words c.args.text.now) c.in-None.ensures.other
