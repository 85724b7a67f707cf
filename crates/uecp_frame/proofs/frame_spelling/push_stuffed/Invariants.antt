use Rattle.std.proofs.Common.{◌≡◌, ◌++◌, take}
use Rattle.uecp_frame.specs.Stuffing.{stuffed}
use Rattle.uecp_frame.proofs.frame_spelling.push_stuffed.Given as goal

abbrev pub invariant-loop-byte : goal.invariant-loop-byte
invariant-loop-byte g l = l.bytes.items ≡ l.fn.bytes.items ++ stuffed (take l.byte-index l.plain)
