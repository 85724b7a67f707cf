use Rattle.promises.proofs.Numbers.{runs_tell_lem}
use Rattle.promises.proofs.line.told_by_number.Goals as goal

pub returns : goal.returns
returns g c = λ how size.
    let k = g.K.Keep in
    runs_tell_lem (g.S.Source.takes how size) g.C.Connections.opens g.C.Connections.closes g.C.Input.Read.remaining
    g.C.Output.Write.contents k.leaves k.is_clean k.saves k.fails
