use Rattle.uecp_frame.proofs.Decoding.{spelling_is_segment}
use Rattle.uecp_frame.proofs.laws.one_segment.Goals as goal

pub returns : goal.returns
returns c = spelling_is_segment
