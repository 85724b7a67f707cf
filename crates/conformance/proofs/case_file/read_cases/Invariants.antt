use Rattle.std.proofs.Common.{◌+◌, ◌≤◌, length}
use Rattle.conformance.proofs.SoFar.{ReadSoFar}
use Rattle.conformance.proofs.case_file.read_cases.Given as goal

-- the lines so far are read, and there are no more than bytes
abbrev pub invariant-loop-rest : goal.invariant-loop-rest
invariant-loop-rest l =
    (l.line + length l.rest ≤ 1 + length l.text) × ReadSoFar l.text l.rest l.cases.items l.begun

abbrev pub decreases-loop-rest : goal.decreases-loop-rest
decreases-loop-rest l = length l.rest
