use Rattle.promises.proofs.SendEnding.{sent_outlives_lem}
use Rattle.promises.proofs.send.sent_outlives.Goals as goal

pub returns : goal.returns
returns g c =
    let k = g.S.ServerKeeper.Keep in
    let states = c.args.states.now in
    sent_outlives_lem g.A.Arrival.answers _ _ (g.S.OpenStates.gives_server states)
    (g.S.OpenStates.refuses_server states) (g.S.OpenStates.closes_server states) k.leaves k.is_clean k.saves k.fails
