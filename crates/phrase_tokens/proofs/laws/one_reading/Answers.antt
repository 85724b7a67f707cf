use Rattle.phrase_tokens.proofs.OneReading.{one_reading}
use Rattle.phrase_tokens.proofs.laws.one_reading.Goals as goal

pub returns : goal.returns
returns c = λ text ts us. one_reading ts us text
