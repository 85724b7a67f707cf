use Rattle.std.proofs.Common.{refl}
use Rattle.uecp_frame.proofs.Steps.{opens_kept}
use Rattle.uecp_frame.proofs.open_segment.OpenSegment.open.Goals as goal

pub returns-then-was_open-clause-kept : goal.returns-then-was_open-clause-kept
returns-then-was_open-clause-kept c = opens_kept _ c.clear.ensures refl refl

pub returns-else-was_open-clause-kept : goal.returns-else-was_open-clause-kept
returns-else-was_open-clause-kept c = opens_kept _ c.clear.ensures refl refl
