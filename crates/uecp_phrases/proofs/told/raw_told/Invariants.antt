use Rattle.std.proofs.Common.{length}
use Rattle.phrase_tokens.specs.View.{tokens_of}
use Rattle.uecp_phrases.proofs.RawWords.{RawHeld}
use Rattle.uecp_phrases.proofs.told.raw_told.Given as goal

abbrev pub invariant-loop-rest : goal.invariant-loop-rest
invariant-loop-rest l = RawHeld (tokens_of l.tokens) l.message (tokens_of l.rest)

abbrev pub decreases-loop-rest : goal.decreases-loop-rest
decreases-loop-rest l = length l.rest
