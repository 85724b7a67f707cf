use Rattle.std.proofs.Common.{subst}
use Rattle.bad_line.specs.Rules.{Say}
use Rattle.bad_line.proofs.rules.spelled_rule.read_rule.Goals as goal

pub returns-in-None-rule_named-clause-refused : goal.returns-in-None-rule_named-clause-refused
returns-in-None-rule_named-clause-refused c = λ rule said.
    c.in-None-rule_named.ensures.other rule (subst (λ ws. Say ws rule) c.in-Some.ensures.word said)
