use Rattle.std.proofs.Common.{◌≡◌, ◌++◌, take}
use Rattle.uecp_frame.specs.Stuffing.{stuffed}
use Rattle.conformance.proofs.case_bytes.put_stuffed.Given as goal

abbrev pub invariant-loop-byte : goal.invariant-loop-byte
invariant-loop-byte l = l.bytes.items ≡ l.fn.bytes.items ++ stuffed (take l.byte-index l.plain)
