use Rattle.uecp_text.specs.Words.{words}
use Rattle.bad_line.proofs.RefusedRules.{none_follows, no_from}
use Rattle.bad_line.proofs.rules.spelled_rule.from_of.Goals as goal

pub returns-then-eq-clause-other : goal.returns-then-eq-clause-other
returns-then-eq-clause-other c =
    none_follows c.frame_of.result
    (no_from (words c.args.text.now) (words c.in-Some.rest.now) c.in-Some.name.now c.in-Some.ensures.word)
    c.frame_of.ensures.other
