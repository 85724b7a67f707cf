use Rattle.uecp_net.proofs.Living.{waits_in_every_file_lem}
use Rattle.uecp_net.proofs.laws.waits_in_every_file.Goals as goal

pub returns : goal.returns
returns g c = waits_in_every_file_lem g.C.Connections.opens g.C.Connections.closes g.C.Input.Read.remaining
    g.C.Output.Write.contents g.K.Keep.saves g.K.Keep.fails
