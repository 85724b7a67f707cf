use Rattle.conformance.proofs.NoiseSoFar.{NoiseSoFar}
use Rattle.conformance.proofs.passed_over.noise.Given as goal

-- those so far and those that follow are all; and so many bytes are open
abbrev pub invariant-loop-byte : goal.invariant-loop-byte
invariant-loop-byte l = NoiseSoFar l.came l.byte-index l.outside l.unended
