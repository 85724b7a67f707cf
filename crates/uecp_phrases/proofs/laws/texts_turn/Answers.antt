use Rattle.uecp_phrases.proofs.Turning.{texts_turn}
use Rattle.uecp_phrases.proofs.laws.texts_turn.Goals as goal

pub returns : goal.returns
returns c = texts_turn
