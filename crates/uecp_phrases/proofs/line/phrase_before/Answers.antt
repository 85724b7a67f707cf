use Rattle.std.proofs.Common.{sym, ◌∙◌}
use Rattle.std.proofs.lemmas.Bool.{false≢true}
use Rattle.uecp_phrases.proofs.Cutting.{before_more, cut_here, cut_nowhere}
use Rattle.uecp_phrases.proofs.line.phrase_before.Goals as goal

pub returns-then-is_semicolon-clause-cut : goal.returns-then-is_semicolon-clause-cut
returns-then-is_semicolon-clause-cut c =
    cut_here c.args.tokens.now c.loop-first.rest.now c.in-Some.more.now c.loop-first.place c.in-Some.first.now
    c.loop-first.invariant c.in-Some.ensures.cases.0 (c.is_semicolon.ensures.0 c.if-is_semicolon.true)

pub loop-first-preserved : goal.loop-first-preserved
loop-first-preserved c =
    before_more c.args.tokens.now c.loop-first.rest.now c.in-Some.more.now c.loop-first.place c.in-Some.first.now
    c.loop-first.invariant c.in-Some.ensures.cases.0
    (λ is. false≢true (sym c.if-is_semicolon.false ∙ c.is_semicolon.ensures.1 is))

pub returns-clause-cut : goal.returns-clause-cut
returns-clause-cut c =
    cut_nowhere c.args.tokens.now c.loop-first.rest.now c.loop-first.place c.loop-first.invariant
    c.in_default.ensures.cases
