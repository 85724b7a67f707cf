use Rattle.std.proofs.Common.{◌≡◌, map, take}
use Rattle.clap.specs.Words.{shape_of}
use Rattle.command_line.specs.Rows.{rule_of_row, with_rules}
use Rattle.command_line.proofs.definition.with_options.Given as goal

abbrev pub invariant-loop-row : goal.invariant-loop-row
invariant-loop-row l =
    shape_of l.whole ≡ with_rules (shape_of l.initial.whole) (map rule_of_row (take l.row-index l.options))
