use Rattle.uecp_frame.proofs.Pieces.{in_pieces_lem}
use Rattle.uecp_frame.proofs.laws.in_pieces.Goals as goal

pub returns : goal.returns
returns c = in_pieces_lem
