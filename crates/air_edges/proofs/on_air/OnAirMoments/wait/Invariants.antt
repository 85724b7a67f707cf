use Rattle.air_edges.specs.Edge.{PassesFor}
use Rattle.air_edges.proofs.on_air.OnAirMoments.wait.Given as goal

-- nothing came of so many turns
abbrev pub invariant-loop-turn : goal.invariant-loop-turn
invariant-loop-turn g l = PassesFor g.S.Sockets.reads g.S.Sockets.waits g.S.Sockets.opens g.S.Sockets.joins l.is_open
    l._turn l.initial.self l.self
