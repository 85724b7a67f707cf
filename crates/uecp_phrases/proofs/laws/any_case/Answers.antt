use Rattle.uecp_phrases.proofs.Alike.{any_case}
use Rattle.uecp_phrases.proofs.laws.any_case.Goals as goal

pub returns : goal.returns
returns c = any_case
