use Rattle.uecp_text.specs.Words.{words}
use Rattle.bad_line.proofs.RefusedRules.{no_span}
use Rattle.bad_line.proofs.rules.spelled_rule.segments_of.Goals as goal

pub returns-in-None-span_of-clause-other : goal.returns-in-None-span_of-clause-other
returns-in-None-span_of-clause-other c =
    no_span (words c.args.text.now) c.in-Some.way.now c.in-Some.span.now c.in-Some.ensures.words
    c.in-None-span_of.ensures.other
