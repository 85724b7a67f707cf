use Rattle.std.proofs.Common.{map, take, ap, refl, sym, ◌∙◌}
use Rattle.clap.specs.Words.{app_of}
use Rattle.command_line.specs.CommandLine.{with_commands}
use Rattle.command_line.specs.Rows.{shape_of_row}
use Rattle.command_line.proofs.Apps.{command_behind, row_more, sub_added}
use Rattle.command_line.proofs.definition.with_commands.Goals as goal

pub loop-row-preserved : goal.loop-row-preserved
loop-row-preserved c =
    let all = c.args.commands.now in
    let i = c.loop-row.row-index in
    let app = app_of c.args.program in
    let before = map shape_of_row (take i all) in
    sub_added _ _ _ (with_commands app before) _ c.in_ok-whole.ensures refl c.loop-row.invariant
    c.in_ok-command_of.ensures
    ∙ sym (ap (with_commands app) (row_more shape_of_row all i _ c.loop-row-test.true) ∙ command_behind app before _)
