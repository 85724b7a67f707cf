use Rattle.std.proofs.Common.{◌≡◌, map, take}
use Rattle.clap.specs.Words.{app_of}
use Rattle.command_line.specs.CommandLine.{with_commands}
use Rattle.command_line.specs.Rows.{shape_of_row}
use Rattle.command_line.proofs.definition.with_commands.Given as goal

abbrev pub invariant-loop-row : goal.invariant-loop-row
invariant-loop-row l =
    app_of l.whole ≡ with_commands (app_of l.initial.whole) (map shape_of_row (take l.row-index l.commands))
