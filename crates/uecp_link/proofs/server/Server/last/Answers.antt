use Rattle.std.proofs.Common.{subst, arith}
use Rattle.uecp_link.specs.Resuming.{IsServer}
use Rattle.uecp_link.proofs.Resumed.{holds_again, can_again}
use Rattle.uecp_link.proofs.server.Server.last.Goals as goal

pub returns-clause-server : goal.returns-clause-server
returns-clause-server c =
    subst IsServer c.self.view_is (record {
      last = omega arith;
      can = can_again c.self.inside.address c.self.inside.last c.self.inside.held.items c.self.invariant;
      in_turn = holds_again c.self.inside.address c.self.inside.last c.self.inside.held.items c.self.invariant;
    })
