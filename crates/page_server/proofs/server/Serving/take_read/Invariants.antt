use Rattle.std.proofs.Common.{◌≡◌, []}
use Rattle.page.specs.Input.{GoesOn}
use Rattle.page_server.specs.Guesting.{AllCaughtUp, IsServing}
use Rattle.page_server.proofs.server.Serving.take_read.Given as goal

-- the lines that were taken are what came of what had been read, and all who ask live and are caught up
abbrev pub invariant-loop-line : goal.invariant-loop-line
invariant-loop-line g l = record {
  goes_on : GoesOn [] l.fn.self.intake l.self.intake;
  limit : l.self.stale ≡ l.fn.self.stale;
  serving : IsServing g.C.Connection.talk l.self;
  caught_up : AllCaughtUp l.self;
}
