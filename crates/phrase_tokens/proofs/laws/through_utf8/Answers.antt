use Rattle.phrase_tokens.proofs.Unicode.{through_utf8}
use Rattle.phrase_tokens.proofs.laws.through_utf8.Goals as goal

pub returns : goal.returns
returns c = through_utf8
