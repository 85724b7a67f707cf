use Rattle.std.proofs.Common.{◌≡◌, ◌++◌, length}
use Rattle.device_edges.specs.Naming.{named}
use Rattle.device_edges.proofs.naming.put_named.Given as goal

-- what was added and what the rest will add is what all lines add
abbrev pub invariant-loop-first : goal.invariant-loop-first
invariant-loop-first l = l.text.items ++ named l.name l.rest ≡ l.initial.text.items ++ named l.name l.lines

abbrev pub decreases-loop-first : goal.decreases-loop-first
decreases-loop-first l = length l.rest
