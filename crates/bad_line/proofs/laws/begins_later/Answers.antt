use Rattle.bad_line.proofs.Later.{untouched_lem}
use Rattle.bad_line.proofs.laws.begins_later.Goals as goal

pub returns : goal.returns
returns c = untouched_lem
