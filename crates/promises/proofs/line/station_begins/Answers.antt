use Rattle.promises.proofs.StationEvents.{station_begins_lem}
use Rattle.promises.proofs.line.station_begins.Goals as goal

pub returns : goal.returns
returns g c =
    station_begins_lem g.T.Target.step g.C.Connections.opens g.C.Connections.closes g.C.Input.Read.remaining
    g.C.Output.Write.contents
