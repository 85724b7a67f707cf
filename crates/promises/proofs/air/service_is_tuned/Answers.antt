use Rattle.promises.proofs.Service.{service_is_tuned}
use Rattle.promises.proofs.air.service_is_tuned.Goals as goal

pub returns : goal.returns
returns c = service_is_tuned
