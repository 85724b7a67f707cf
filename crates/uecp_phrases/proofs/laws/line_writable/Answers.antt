use Rattle.uecp_phrases.proofs.LineTokens.{line_writable}
use Rattle.uecp_phrases.proofs.laws.line_writable.Goals as goal

pub returns : goal.returns
returns c = line_writable
