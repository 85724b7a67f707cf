use Rattle.seats.proofs.Shares.{fewer_get_in_lem}
use Rattle.seats.proofs.laws.fewer_get_in.Goals as goal

pub returns : goal.returns
returns c = fewer_get_in_lem
