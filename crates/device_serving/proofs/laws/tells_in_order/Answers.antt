use Rattle.device_serving.proofs.InOrder.{tells_in_order_lem}
use Rattle.device_serving.proofs.laws.tells_in_order.Goals as goal

pub returns : goal.returns
returns g c = tells_in_order_lem g.T.Target.step
