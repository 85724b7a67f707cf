use Rattle.std.proofs.Common.{ap, ◌∙◌, ◌∷◌}
use Rattle.bad_line.proofs.RefusedRules.{more_parts}
use Rattle.bad_line.proofs.rules.numbers.ends_of.Goals as goal

pub returns-in-Some-cut_at_dot-2-clause-other : goal.returns-in-Some-cut_at_dot-2-clause-other
returns-in-Some-cut_at_dot-2-clause-other c =
    more_parts c.args.word.now c.in-Some-cut_at_dot-2.field-0.1.now c.in-Some.first.now
    c.in-Some-empty-default.field-0-0.now c.in-Some-cut_at_dot-2.field-0.0.now (c.in-Some.ensures.cut
    ∙ ap (λ l. c.in-Some.first.now ∷ l) c.in-Some-empty-default.ensures.cut
    ∙ ap (λ l. c.in-Some.first.now ∷ c.in-Some-empty-default.field-0-0.now ∷ l) c.in-Some-cut_at_dot-2.ensures.cut)
