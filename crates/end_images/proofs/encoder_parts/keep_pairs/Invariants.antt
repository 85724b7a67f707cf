use Rattle.std.proofs.Common.{◌≡◌, length}
use Rattle.end_images.specs.Parsing.{pairs_kept}
use Rattle.end_images.proofs.encoder_parts.keep_pairs.Given as goal

-- what is left makes the same ring
abbrev pub invariant-loop-rest : goal.invariant-loop-rest
invariant-loop-rest l = pairs_kept l.ring l.rest ≡ pairs_kept l.fn.ring l.fn.pairs

abbrev pub decreases-loop-rest : goal.decreases-loop-rest
decreases-loop-rest l = length l.rest
