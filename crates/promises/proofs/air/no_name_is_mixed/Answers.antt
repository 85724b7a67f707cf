use Rattle.promises.proofs.NamesInOrder.{no_name_is_mixed}
use Rattle.promises.proofs.air.no_name_is_mixed.Goals as goal

pub returns : goal.returns
returns c = no_name_is_mixed
