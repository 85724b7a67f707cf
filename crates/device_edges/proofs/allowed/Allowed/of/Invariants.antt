use Rattle.std.proofs.Common.{map}
use Rattle.std.specs.List.{AllZip}
use Rattle.device_edges.specs.Allowed.{IsNetworkText}
use Rattle.device_edges.proofs.allowed.Allowed.of.Given as goal

-- the networks so far are those of the parts so far
abbrev pub invariant-loop-part : goal.invariant-loop-part
invariant-loop-part l = AllZip IsNetworkText (map (λ part. part.now) l.yielded) l.networks.items
