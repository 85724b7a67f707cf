use Rattle.live_edges.specs.Patience.{SaysOn, Misses}
use Rattle.live_edges.proofs.patient.PatientConnections.open.Given as goal

-- so many tries gave nothing
abbrev pub invariant-loop-try : goal.invariant-loop-try
invariant-loop-try g l = record {
  missed : Misses g.C.Connections.opens l._try l.fn.self.connect l.self.connect;
  says : SaysOn l.fn.self l.self;
}
