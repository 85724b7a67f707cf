use Rattle.promises.proofs.Service.{traffic_is_told}
use Rattle.promises.proofs.air.traffic_is_told.Goals as goal

pub returns : goal.returns
returns c = traffic_is_told
