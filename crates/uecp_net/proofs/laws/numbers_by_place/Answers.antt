use Rattle.uecp_net.proofs.Living.{numbers_by_place_lem}
use Rattle.uecp_net.proofs.laws.numbers_by_place.Goals as goal

pub returns : goal.returns
returns g c = numbers_by_place_lem g.C.Connections.opens g.C.Connections.closes g.C.Input.Read.remaining
    g.C.Output.Write.contents g.K.Keep.saves g.K.Keep.fails
