use Rattle.uecp_phrases.proofs.OneMeaning.{one_meaning}
use Rattle.uecp_phrases.proofs.laws.one_meaning.Goals as goal

pub returns : goal.returns
returns c = one_meaning
