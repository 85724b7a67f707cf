use Rattle.uecp_text.specs.Words.{words}
use Rattle.bad_line.proofs.RefusedRules.{no_loss}
use Rattle.bad_line.proofs.rules.spelled_rule.loss.Goals as goal

pub returns-in-None-chance_from-clause-other : goal.returns-in-None-chance_from-clause-other
returns-in-None-chance_from-clause-other c =
    no_loss (words c.args.text.now) c.in-None.ensures.other c.in-None-chance_from.ensures.other
