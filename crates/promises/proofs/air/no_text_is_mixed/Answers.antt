use Rattle.promises.proofs.Mixing.{no_text_is_mixed}
use Rattle.promises.proofs.air.no_text_is_mixed.Goals as goal

pub returns : goal.returns
returns c = no_text_is_mixed
