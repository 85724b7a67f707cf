use Rattle.std.proofs.Common.{◌≡◌, [], length}
use Rattle.sending.proofs.Stationing.{SoFar}
use Rattle.sending.proofs.station.send_station.Given as goal

-- the server is idle, and some first batches were sent and put down so
abbrev pub invariant-loop-rest : goal.invariant-loop-rest
invariant-loop-rest g l = record {
  idle : l.sender.sender.server.held ≡ [];
  loan : l.sender.loan ≡ l.fn.sender.loan;
  so : SoFar g.C.Connections.opens g.C.Connections.closes g.C.Input.Read.remaining g.C.Output.Write.contents l.form
      l.size
      l.station
      l.fn.sender l.fn.lines l.lines l.fn.all l.all l.rest l.sender;
}

abbrev pub decreases-loop-rest : goal.decreases-loop-rest
decreases-loop-rest g l = length l.rest
