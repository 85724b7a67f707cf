use Rattle.std.proofs.Common.{◌-◌, length}
use Rattle.uecp_frame.specs.OpenSegment.{part_of, IsOpenSegment}
use Rattle.uecp_frame.proofs.Taking.{Quiet}
use Rattle.uecp_frame.proofs.open_segment.OpenSegment.advance.Given as goal

abbrev pub invariant-loop-used : goal.invariant-loop-used
invariant-loop-used l = record {
  quiet : Quiet (part_of l.fn.self) l.piece l.used (part_of l.self);
  kept : IsOpenSegment l.self;
}

abbrev pub decreases-loop-used : goal.decreases-loop-used
decreases-loop-used l = length l.piece - l.used
