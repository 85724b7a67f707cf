use Rattle.uecp_encoder.proofs.InPieces.{heard_after_noise_lem}
use Rattle.uecp_encoder.proofs.laws.heard_after_noise.Goals as goal

pub returns : goal.returns
returns c = heard_after_noise_lem
