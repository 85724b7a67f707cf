use Rattle.promises.proofs.Doings.{studio_does_lem}
use Rattle.promises.proofs.line.studio_does.Goals as goal

pub returns : goal.returns
returns g c = studio_does_lem _ _ _ _ _ _
