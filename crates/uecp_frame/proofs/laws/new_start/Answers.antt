use Rattle.uecp_frame.proofs.Pieces.{new_start_lem}
use Rattle.uecp_frame.proofs.laws.new_start.Goals as goal

pub returns : goal.returns
returns c = new_start_lem
