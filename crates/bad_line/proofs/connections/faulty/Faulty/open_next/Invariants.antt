use Rattle.std.proofs.Common.{◌≡◌, false}
use Rattle.bad_line.specs.Connections.{Refuses}
use Rattle.bad_line.proofs.connections.faulty.Faulty.open_next.Given as goal

-- so many connections were refused
abbrev pub invariant-loop-refused : goal.invariant-loop-refused
invariant-loop-refused g l = record {
  refused : Refuses g.C.Connections.opens g.C.Connections.closes l._refused l.initial.self.connect l.self.connect;
  some : l.initial.self.refuses ≡ false → l._refused ≡ 0;
  same : l.self ≡ record l.initial.self { connect = l.self.connect };
}
