use Rattle.std.proofs.Common.{◌≡◌, ◌++◌, ◌∷◌, take}
use Rattle.uecp_frame.specs.Frame.{high_first}
use Rattle.conformance.proofs.case_bytes.plain_of.Given as goal

abbrev pub invariant-loop-byte : goal.invariant-loop-byte
invariant-loop-byte l = l.plain.items ≡ high_first l.address ++ l.counter ∷ l.said ∷ take l.byte-index l.message
