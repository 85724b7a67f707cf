use Rattle.phrase_tokens.proofs.ReadBack.{read_back}
use Rattle.phrase_tokens.proofs.laws.read_back.Goals as goal

pub returns : goal.returns
returns c = read_back
