use Rattle.device_edges.specs.Place.{AsksTimes}
use Rattle.device_edges.proofs.accepting.AcceptingConnections.open.Given as goal

-- it was asked so often at most
abbrev pub invariant-loop-wait : goal.invariant-loop-wait
invariant-loop-wait g l = AsksTimes l._wait l.initial.self l.self
