use Rattle.uecp_encoder.proofs.InPieces.{in_pieces_of_encoder}
use Rattle.uecp_encoder.proofs.laws.in_pieces.Goals as goal

pub returns : goal.returns
returns g c = in_pieces_of_encoder g.T.Target.step
