use Rattle.std.proofs.Common.{◌<◌, length, ◌∙◌, rules}
use Rattle.page.proofs.Fields.{found, another}
use Rattle.page.proofs.clients.asked.value_of.Goals as goal

pub returns-then-eq_ignore_ascii_case : goal.returns-then-eq_ignore_ascii_case
returns-then-eq_ignore_ascii_case c =
    let within : c.loop-field.field-index < length c.args.fields.now = search rules in
    found _ _ _ _ _ _ _ within c.of.ensures c.of-then-eq_ignore_ascii_case.ensures
    (c.eq_ignore_ascii_case.ensures.test.0 c.if-eq_ignore_ascii_case.true)
    ∙ c.loop-field.invariant

pub loop-field-preserved : goal.loop-field-preserved
loop-field-preserved c =
    let within : c.loop-field.field-index < length c.args.fields.now = search rules in
    another _ _ _ _ _ _ within c.of.ensures
    (λ same. cc (c.eq_ignore_ascii_case.ensures.test.1 same, c.if-eq_ignore_ascii_case.false))
    ∙ c.loop-field.invariant
