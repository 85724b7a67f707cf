use Rattle.std.proofs.Common.{length}
use Rattle.phrase_tokens.proofs.Passed.{Passed}
use Rattle.phrase_tokens.proofs.columns.column_of.Given as goal

-- so many tokens of the rest are still to be passed
abbrev pub invariant-loop-first : goal.invariant-loop-first
invariant-loop-first l = Passed l.text l.fn.index l.rest l.before

abbrev pub decreases-loop-first : goal.decreases-loop-first
decreases-loop-first l = length l.rest
