use Rattle.uecp_net.proofs.LosingNone.{sends_none_again_lem}
use Rattle.uecp_net.proofs.laws.told_is_not_sent_again.Goals as goal

pub returns : goal.returns
returns g c = sends_none_again_lem g.C.Connections.opens g.C.Connections.closes g.C.Input.Read.remaining
    g.C.Output.Write.contents
