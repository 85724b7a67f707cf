use Rattle.store_phrases.proofs.Telling.{said_by_elements}
use Rattle.store_phrases.proofs.laws.said_by_elements.Goals as goal

pub returns : goal.returns
returns c = said_by_elements
