use Rattle.uecp_encoder.proofs.Ordering.{applies_in_order_lem, applies_from_01_lem}
use Rattle.uecp_encoder.proofs.laws.applied_in_order.Goals as goal

pub returns-clause-each : goal.returns-clause-each
returns-clause-each g c = applies_in_order_lem g.T.Target.step

pub returns-clause-from_01 : goal.returns-clause-from_01
returns-clause-from_01 g c = applies_from_01_lem g.T.Target.step
