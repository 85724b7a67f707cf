use Rattle.promises.proofs.Epochs.{over_epochs_lem}
use Rattle.promises.proofs.crash.headline_over_epochs.Goals as goal

pub returns : goal.returns
returns g c = over_epochs_lem g.T.Target.step g.T.Target.taken
