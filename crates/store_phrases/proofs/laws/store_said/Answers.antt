use Rattle.store_phrases.proofs.Messages.{store_said}
use Rattle.store_phrases.proofs.laws.store_said.Goals as goal

pub returns : goal.returns
returns c = store_said
