use Rattle.promises.proofs.SendEnding.{sent_is_told_lem}
use Rattle.promises.proofs.send.sent_is_told.Goals as goal

pub returns : goal.returns
returns g c =
    let k = g.S.ServerKeeper.Keep in
    let states = c.args.states.now in
    sent_is_told_lem g.A.Arrival.answers _ _ (g.S.OpenStates.gives_server states) (g.S.OpenStates.refuses_server states)
    (g.S.OpenStates.closes_server states) k.leaves k.is_clean k.saves k.fails
