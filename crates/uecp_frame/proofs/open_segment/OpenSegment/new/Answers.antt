use Rattle.std.proofs.Common.{refl}
use Rattle.uecp_frame.proofs.Steps.{opens_kept}
use Rattle.uecp_frame.proofs.open_segment.OpenSegment.new.Goals as goal

pub returns-clause-kept : goal.returns-clause-kept
returns-clause-kept c = opens_kept _ c.new.ensures refl refl
