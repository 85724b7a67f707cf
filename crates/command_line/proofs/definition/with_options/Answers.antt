use Rattle.std.proofs.Common.{map, take, ap, ◌∙◌}
use Rattle.clap.specs.Words.{shape_of}
use Rattle.command_line.specs.Rows.{rule_of_row, with_rules}
use Rattle.command_line.proofs.Apps.{arg_added, rules_more}
use Rattle.command_line.proofs.definition.with_options.Goals as goal

pub loop-row-preserved : goal.loop-row-preserved
loop-row-preserved c =
    let all = c.args.options.now in
    let i = c.loop-row.row-index in
    let shape = shape_of c.args.command in
    let before = with_rules shape (map rule_of_row (take i all)) in
    arg_added _ _ c.row_argument.result before _ c.in_ok-whole.ensures c.row_argument.ensures.own c.loop-row.invariant
    c.row_argument.ensures.rule
    ∙ ap (λ l. record shape { rules = l }) (rules_more rule_of_row shape.rules all i _ c.loop-row-test.true)
