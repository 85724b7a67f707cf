use Rattle.end_images.proofs.Noticing.{notices}
use Rattle.end_images.proofs.laws.a_change_is_noticed.Goals as goal

pub returns : goal.returns
returns c = notices
