use Rattle.promises.proofs.Joins.{joins_begin_lem}
use Rattle.promises.proofs.line.join_begins.Goals as goal

pub returns : goal.returns
returns g c =
    joins_begin_lem g.T.Target.step g.C.Connections.opens g.C.Connections.closes g.C.Input.Read.remaining
    g.C.Output.Write.contents
