use Rattle.std.proofs.Common.{◌≡◌}
use Rattle.uecp_link.specs.Driving.{copies}
use Rattle.conformance.proofs.steps.joined.Given as goal

abbrev pub invariant-loop-copy : goal.invariant-loop-copy
invariant-loop-copy l = l.message ≡ copies l.bytes l._copy
