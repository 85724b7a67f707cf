use Rattle.promises.proofs.Mixing.{no_text_is_mixed_over_a_start}
use Rattle.promises.proofs.air.no_text_is_mixed_over_a_start.Goals as goal

pub returns : goal.returns
returns c = no_text_is_mixed_over_a_start
