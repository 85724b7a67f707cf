use Rattle.promises.proofs.Sending.{station_is_out_lem}
use Rattle.promises.proofs.station.station_is_out.Goals as goal

pub returns : goal.returns
returns g c = station_is_out_lem g.C.Connections.opens g.C.Connections.closes g.C.Input.Read.remaining
    g.C.Output.Write.contents
