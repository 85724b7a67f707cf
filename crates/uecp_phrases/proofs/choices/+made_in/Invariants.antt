use Rattle.std.proofs.Common.{length}
use Rattle.uecp_phrases.proofs.choices.+made_in.Given as goal

abbrev pub decreases-made_in : goal.decreases-made_in
decreases-made_in l = length l.tokens.now
