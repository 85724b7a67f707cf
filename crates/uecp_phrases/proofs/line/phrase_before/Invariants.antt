use Rattle.std.proofs.Common.{length}
use Rattle.uecp_phrases.proofs.Cutting.{Before}
use Rattle.uecp_phrases.proofs.line.phrase_before.Given as goal

abbrev pub invariant-loop-first : goal.invariant-loop-first
invariant-loop-first l = Before l.tokens l.place l.rest

abbrev pub decreases-loop-first : goal.decreases-loop-first
decreases-loop-first l = length l.rest
