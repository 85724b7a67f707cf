use Rattle.promises.proofs.TextRuns.{text_is_shown}
use Rattle.promises.proofs.air.text_is_shown.Goals as goal

pub returns : goal.returns
returns c = text_is_shown
