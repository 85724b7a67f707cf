use Rattle.seats.proofs.Shares.{few_keep_lem}
use Rattle.seats.proofs.laws.few_keep.Goals as goal

pub returns : goal.returns
returns c = few_keep_lem
