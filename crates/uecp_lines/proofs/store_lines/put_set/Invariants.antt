use Rattle.std.proofs.Common.{flat_map, drop, length, ◌-◌}
use Rattle.uecp_lines.specs.StoreLines.{lines_at, set_lines}
use Rattle.uecp_text.proofs.Public.{Leads}
use Rattle.uecp_lines.proofs.store_lines.put_set.Given as goal

-- what is left leads to the same
abbrev pub invariant-loop-number : goal.invariant-loop-number
invariant-loop-number l = Leads l.fn.output l.output (flat_map (lines_at l.store l.set) (drop l.place l.store.services))
    (set_lines l.store l.set)

abbrev pub decreases-loop-number : goal.decreases-loop-number
decreases-loop-number l = length l.store.services - l.place
