use Rattle.uecp_phrases.proofs.SaidMessages.{message_said}
use Rattle.uecp_phrases.proofs.laws.message_said.Goals as goal

pub returns : goal.returns
returns c = message_said
