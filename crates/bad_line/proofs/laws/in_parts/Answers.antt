use Rattle.bad_line.proofs.Parts.{in_parts_lem}
use Rattle.bad_line.proofs.laws.in_parts.Goals as goal

pub returns : goal.returns
returns c = in_parts_lem
