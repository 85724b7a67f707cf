use Rattle.std.proofs.Common.{length}
use Rattle.phrase_tokens.specs.View.{tokens_of}
use Rattle.phrase_tokens.proofs.LaysOn.{LaysOn}
use Rattle.phrase_tokens.proofs.tokens_read.tokens_of.Given as goal

-- the tokens so far stand in front of the rest
abbrev pub invariant-loop-first : goal.invariant-loop-first
invariant-loop-first l = LaysOn l.text l.rest (tokens_of l.tokens.items)

abbrev pub decreases-loop-first : goal.decreases-loop-first
decreases-loop-first l = length l.rest
