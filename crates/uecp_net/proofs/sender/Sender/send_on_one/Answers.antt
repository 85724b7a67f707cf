use Rattle.std.proofs.Common.{◌∙◌}
use Rattle.uecp_net.proofs.Breaking.{attempted}
use Rattle.uecp_net.proofs.sender.Sender.send_on_one.Goals as goal

pub returns-clause-goes : goal.returns-clause-goes
returns-clause-goes g c =
    let (start, goes_on, has, now_is) = c.in_ok-ends.ensures.goes_on in
    attempted g.C.Input.Read.remaining g.C.Output.Write.contents g.C.Connections.opens g.C.Connections.closes
    c.args.self.now
    start _ _ _ _ _ _ _ goes_on has (c.self.view_is ∙ now_is) c.send_waiting-went.ensures.tried
