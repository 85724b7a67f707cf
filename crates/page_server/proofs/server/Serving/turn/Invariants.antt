use Rattle.std.proofs.Common.{◌≡◌}
use Rattle.page_server.specs.Guesting.{AllCaughtUp, IsServing}
use Rattle.page_server.proofs.server.Serving.turn.Given as goal

-- nothing more was taken of the input, and all who ask live and are caught up
abbrev pub invariant-loop-number : goal.invariant-loop-number
invariant-loop-number g l = record {
  same : l.self.intake ≡ l.fn.self.intake;
  limit : l.self.stale ≡ l.fn.self.stale;
  serving : IsServing g.C.Connection.talk l.self;
  caught_up : AllCaughtUp l.self;
}
