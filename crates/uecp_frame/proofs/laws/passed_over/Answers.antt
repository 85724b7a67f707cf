use Rattle.uecp_frame.proofs.PassedOver.{passed_over_lem}
use Rattle.uecp_frame.proofs.laws.passed_over.Goals as goal

pub returns : goal.returns
returns c = passed_over_lem
