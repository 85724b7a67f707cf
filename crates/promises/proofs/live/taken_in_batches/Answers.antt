use Rattle.promises.proofs.LiveEnding.{taken_in_batches_lem}
use Rattle.promises.proofs.live.taken_in_batches.Goals as goal

pub returns : goal.returns
returns g c =
    let k = g.K.Keep in
    taken_in_batches_lem g.F.Feed.remaining g.F.Feed.takes g.F.Feed.says g.F.Feed.passes g.C.Connections.opens
    g.C.Connections.closes
    g.C.Input.Read.remaining g.C.Output.Write.contents k.leaves k.is_clean k.saves k.fails
