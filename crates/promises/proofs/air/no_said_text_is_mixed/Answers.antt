use Rattle.promises.proofs.Saying.{no_said_text_is_mixed}
use Rattle.promises.proofs.air.no_said_text_is_mixed.Goals as goal

pub returns : goal.returns
returns c = no_said_text_is_mixed
