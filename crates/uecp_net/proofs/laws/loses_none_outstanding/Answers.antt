use Rattle.uecp_net.proofs.LosingNone.{loses_none_outstanding_lem}
use Rattle.uecp_net.proofs.laws.loses_none_outstanding.Goals as goal

pub returns : goal.returns
returns g c = loses_none_outstanding_lem g.C.Connections.opens g.C.Connections.closes g.C.Input.Read.remaining
    g.C.Output.Write.contents g.K.Keep.saves g.K.Keep.fails
