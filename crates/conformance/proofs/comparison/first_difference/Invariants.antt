use Rattle.std.proofs.Common.{length}
use Rattle.conformance.proofs.Judged.{Agrees}
use Rattle.conformance.proofs.comparison.first_difference.Given as goal

-- what came so far are the first replies
abbrev pub invariant-loop-rest : goal.invariant-loop-rest
invariant-loop-rest l = Agrees l.own l.wanted l.came l.deframer l.rest l.agreed

abbrev pub decreases-loop-rest : goal.decreases-loop-rest
decreases-loop-rest l = length l.rest
