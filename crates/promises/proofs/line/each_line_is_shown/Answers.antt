use Rattle.promises.proofs.Displaying.{each_line_is_shown_lem}
use Rattle.promises.proofs.line.each_line_is_shown.Goals as goal

pub returns : goal.returns
returns c = each_line_is_shown_lem
