use Rattle.promises.proofs.Displaying.{what_is_taken_is_shown_lem}
use Rattle.promises.proofs.display.what_is_taken_is_shown.Goals as goal

pub returns : goal.returns
returns c = what_is_taken_is_shown_lem
