-- A ladder in either form (profile).
use Rattle.std.specs.Prelude.{ℕ, List, ◌++◌, length}
use Rattle.rds_store.specs.Value.{Store}
use Rattle.uecp_link.specs.Holds.{LineState, is_acknowledged}
use Rattle.uecp_link.specs.Once.{least_missing}
use Rattle.uecp_lines.specs.Steps.{totals_line}
use Rattle.commands.specs.declared.line_options.LadderForm.{LadderForm}
use Rattle.commands.specs.declared.line_options.LadderForm.TheVariants.{Picture, Text}
use Rattle.ladders.specs.declared.row.Row.{Row}
use Rattle.ladders.specs.Text.{text_ladder}
use Rattle.ladders.specs.Picture.{picture}

-- The totals of a line, as the command `line` writes them.
abbrev pub totals_of : LineState Store → List ℕ
totals_of line = totals_line (length line.sent) (length line.codes)
    (least_missing (is_acknowledged line) (length line.sent))

-- The rows of a ladder, the first at the top, and the totals of the line below them.
abbrev pub ladder : LadderForm → List Row → LineState Store → List ℕ
ladder Picture rows line = picture rows (totals_of line)
ladder Text rows line = text_ladder rows ++ totals_of line
