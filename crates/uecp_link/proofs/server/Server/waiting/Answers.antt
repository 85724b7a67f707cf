use Rattle.std.proofs.Common.{◌==◌, subst}
use Rattle.std.specs.List.{IsDistinct}
use Rattle.uecp_link.specs.Server.{ServerState, counters_waiting}
use Rattle.uecp_link.proofs.Marks.{in_turn-distinct}
use Rattle.uecp_link.proofs.server.Server.waiting.Goals as goal

pub returns-clause-distinct : goal.returns-clause-distinct
returns-clause-distinct c =
    subst (λ (s : ServerState). IsDistinct ◌==◌ (counters_waiting s)) c.self.view_is
    (in_turn-distinct c.self.inside.last c.self.inside.held.items c.self.invariant.in_turn c.self.invariant.few)
