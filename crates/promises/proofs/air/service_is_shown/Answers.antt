use Rattle.promises.proofs.Service.{service_is_shown}
use Rattle.promises.proofs.air.service_is_shown.Goals as goal

pub returns : goal.returns
returns c = service_is_shown
