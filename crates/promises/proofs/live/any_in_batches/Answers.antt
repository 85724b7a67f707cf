use Rattle.promises.proofs.BatchRuns.{in_all}
use Rattle.promises.proofs.live.any_in_batches.Goals as goal

pub returns : goal.returns
returns g c = λ how options.
    let k = g.K.Keep in
    in_all (g.S.Source.takes how) g.C.Connections.opens g.C.Connections.closes g.C.Input.Read.remaining
    g.C.Output.Write.contents k.leaves k.is_clean k.saves k.fails options
