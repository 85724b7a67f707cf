use Rattle.std.proofs.Common.{◌≡◌, ◌∷◌, ◌-◌, suc, ap, ◌∙◌, arith, subst}
use Rattle.std.proofs.lemmas.List.{nil_from_length}
use Rattle.phrase_tokens.specs.View.{token_of}
use Rattle.phrase_tokens.proofs.Passed.{Passed, passed_space, passed_token, here_none, end_none}
use Rattle.phrase_tokens.proofs.columns.column_of.Goals as goal

pub loop-first-preserved-then-first-eq32 : goal.loop-first-preserved-then-first-eq32
loop-first-preserved-then-first-eq32 c =
    passed_space c.args.text.now c.args.index c.loop-first.rest.now c.in-Some.more.now c.loop-first.before
    c.loop-first.invariant (c.in-Some.ensures.cases.0 ∙ ap (λ x. x ∷ c.in-Some.more.now) c.if-first-eq32.true)

pub returns-in-Err-clause-begins : goal.returns-in-Err-clause-begins
returns-in-Err-clause-begins c = λ ts l _.
    absurd (here_none c.args.text.now c.args.index c.loop-first.rest.now c.loop-first.before c.in-Some.first.now
    c.in-Some.more.now c.loop-first.invariant c.in-Some.ensures.cases.0 c.if-first-eq32.false c.in-Err.ensures.err ts l)

pub loop-first-preserved : goal.loop-first-preserved
loop-first-preserved c =
    let one_less : c.loop-first.before ≡ suc (c.loop-first.before - 1) = omega arith in
    passed_token c.args.text.now c.args.index c.loop-first.rest.now c.in-Ok.behind.now (token_of c.in-Ok.field-0-0)
    c.loop-first.before (c.loop-first.before - 1) c.loop-first.invariant c.in-Ok.ensures.ok one_less

pub returns-clause-begins : goal.returns-clause-begins
returns-clause-begins c = λ ts l some.
    absurd (end_none c.args.text.now c.args.index c.loop-first.before
    (subst (λ r. Passed c.args.text.now c.args.index r c.loop-first.before)
    (nil_from_length c.loop-first.rest.now c.in_default.ensures.cases) c.loop-first.invariant) ts l some)
