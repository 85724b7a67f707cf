use Rattle.uecp_frame.proofs.Pieces.{comes_after_lem}
use Rattle.uecp_frame.proofs.laws.comes_after.Goals as goal

pub returns : goal.returns
returns c = comes_after_lem
