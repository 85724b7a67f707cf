use Rattle.promises.proofs.Displaying.{shown_over_epochs_lem}
use Rattle.promises.proofs.display.shown_over_epochs.Goals as goal

pub returns : goal.returns
returns c = shown_over_epochs_lem
