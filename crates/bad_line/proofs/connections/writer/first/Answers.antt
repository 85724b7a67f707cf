use Rattle.bad_line.proofs.Delivering.{take_least}
use Rattle.bad_line.proofs.connections.writer.first.Goals as goal

pub returns-clause-first : goal.returns-clause-first
returns-clause-first c = take_least c.args.bytes.now c.min.result c.min.ensures
