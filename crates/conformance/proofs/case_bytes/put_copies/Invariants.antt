use Rattle.std.proofs.Common.{◌≡◌, ◌++◌}
use Rattle.uecp_link.specs.Driving.{copies}
use Rattle.conformance.proofs.case_bytes.put_copies.Given as goal

abbrev pub invariant-loop-copy : goal.invariant-loop-copy
invariant-loop-copy l = l.bytes.items ≡ l.fn.bytes.items ++ copies l.copy l._copy
