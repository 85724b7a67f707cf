use Rattle.uecp_net.proofs.LosingNone.{loses_no_message_lem}
use Rattle.uecp_net.proofs.laws.loses_no_message.Goals as goal

pub returns : goal.returns
returns g c = loses_no_message_lem g.C.Connections.opens g.C.Connections.closes g.C.Input.Read.remaining
    g.C.Output.Write.contents g.K.Keep.saves g.K.Keep.fails
