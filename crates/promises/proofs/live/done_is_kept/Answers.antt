use Rattle.promises.proofs.LiveEnding.{done_is_kept_lem}
use Rattle.promises.proofs.live.done_is_kept.Goals as goal

pub returns : goal.returns
returns g c =
    let k = g.K.Keep in
    done_is_kept_lem g.F.Feed.remaining g.F.Feed.takes g.F.Feed.says g.F.Feed.passes g.C.Connections.opens
    g.C.Connections.closes
    g.C.Input.Read.remaining g.C.Output.Write.contents
    k.leaves
    k.is_clean k.saves k.fails
