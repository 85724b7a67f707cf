use Rattle.std.proofs.Common.{◌≡◌}
use Rattle.air_edges.specs.Edge.{TellsSlow}
use Rattle.air_edges.proofs.on_air.OnAir.tell_slow.Given as goal

-- so many were told of
abbrev pub invariant-loop-one : goal.invariant-loop-one
invariant-loop-one g l = record {
  tells : TellsSlow l._one (g.W.Write.contents l.initial.self-inside.notices.now)
      (g.W.Write.contents l.self-inside.notices.now);
  same : l.self-inside ≡ record l.initial.self-inside { notices = l.self-inside.notices };
}
