-- So far events were put behind what waited, and bytes of that were written, one at least in each turn; what is owed
-- waits.
use Rattle.std.proofs.Common.{◌≡◌}
use Rattle.page.specs.ClientView.{standing_of, came_of}
use Rattle.page.specs.Delivering.{IsCaughtUp}
use Rattle.page.proofs.Delivered.{Since}
use Rattle.page.proofs.clients.client.Client.deliver.Given as goal

abbrev pub invariant-loop-write : goal.invariant-loop-write
invariant-loop-write g l = record {
  since : Since l.history (g.C.Connection.talk l.fn.connection) (g.C.Connection.talk l.connection)
      (standing_of l.fn.self) (standing_of l.self) l._write;
  caught_up : IsCaughtUp l.history (standing_of l.self);
  came : came_of l.self ≡ came_of l.fn.self;
}
