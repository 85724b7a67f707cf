use Rattle.store_phrases.proofs.Messages.{made_again}
use Rattle.store_phrases.proofs.laws.made_again.Goals as goal

pub returns : goal.returns
returns c = made_again
