use Rattle.std.proofs.Common.{◌≡◌}
use Rattle.std.specs.Io.KnownBytes.{Keeps}
use Rattle.device_edges.specs.Outlet.{standing}
use Rattle.device_edges.proofs.outlet.Outlet.pay.Given as goal

-- what goes out stays the same
abbrev pub invariant-loop-piece : goal.invariant-loop-piece
invariant-loop-piece g l = Keeps (standing l.initial.self) (standing l.self)
    × (l.self.left_out ≡ l.initial.self.left_out)
