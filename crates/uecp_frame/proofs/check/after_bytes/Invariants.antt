use Rattle.std.proofs.Common.{◌≡◌, length}
use Rattle.uecp_frame.specs.Check.{register_after}
use Rattle.uecp_frame.proofs.check.after_bytes.Given as goal

abbrev pub invariant-loop-rest : goal.invariant-loop-rest
invariant-loop-rest l = register_after l.register l.rest ≡ register_after l.fn.register l.bytes

abbrev pub decreases-loop-rest : goal.decreases-loop-rest
decreases-loop-rest l = length l.rest
