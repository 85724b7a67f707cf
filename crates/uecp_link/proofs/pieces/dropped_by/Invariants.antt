use Rattle.std.proofs.Common.{◌≡◌, ◌≤◌, ◌+◌, length}
use Rattle.uecp_frame.specs.Findings.{has_frame}
use Rattle.uecp_frame.specs.Beyond.{found_beyond}
use Rattle.uecp_link.proofs.pieces.dropped_by.Given as goal

abbrev pub invariant-loop-rest : goal.invariant-loop-rest
invariant-loop-rest l = record {
  frame : has_frame (found_beyond l.copy l.rest) ≡ has_frame (found_beyond l.deframer l.noise);
  count : l.dropped + length (found_beyond l.copy l.rest) ≡ length (found_beyond l.deframer l.noise);
  few : l.dropped + length l.rest ≤ length l.noise;
}

abbrev pub decreases-loop-rest : goal.decreases-loop-rest
decreases-loop-rest l = length l.rest
