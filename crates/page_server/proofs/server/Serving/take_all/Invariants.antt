use Rattle.std.proofs.Common.{◌≡◌}
use Rattle.page_server.specs.Serving.{ReadsOn}
use Rattle.page_server.specs.Guesting.{AllCaughtUp, IsServing}
use Rattle.page_server.proofs.server.Serving.take_all.Given as goal

-- the lines that were taken are what came of what was read, and all who ask live and are caught up
abbrev pub invariant-loop-turn : goal.invariant-loop-turn
invariant-loop-turn g l = record {
  reads : ReadsOn (g.R.Read.remaining l.fn.reader) (g.R.Read.remaining l.reader) l.fn.self.intake l.self.intake;
  limit : l.self.stale ≡ l.fn.self.stale;
  serving : IsServing g.C.Connection.talk l.self;
  caught_up : AllCaughtUp l.self;
}
