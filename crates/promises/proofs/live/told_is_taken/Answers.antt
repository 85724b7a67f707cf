use Rattle.promises.proofs.LiveEnding.{told_is_taken_lem}
use Rattle.promises.proofs.live.told_is_taken.Goals as goal

pub returns : goal.returns
returns g c =
    let k = g.K.Keep in
    told_is_taken_lem g.F.Feed.remaining g.F.Feed.takes g.F.Feed.says g.F.Feed.passes g.C.Connections.opens
    g.C.Connections.closes
    g.C.Input.Read.remaining g.C.Output.Write.contents
    k.leaves
    k.is_clean k.saves k.fails
