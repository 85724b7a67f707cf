use Rattle.promises.proofs.RunEvents.{runs_lem}
use Rattle.promises.proofs.line.run_is_events.Goals as goal

pub returns : goal.returns
returns g c = λ how.
    let k = g.K.Keep in
    runs_lem (g.S.Source.takes how) g.C.Connections.opens g.C.Connections.closes g.C.Input.Read.remaining
    g.C.Output.Write.contents k.leaves k.is_clean k.saves k.fails
