use Rattle.std.proofs.Common.{◌-◌, ◌+◌, flat_map}
use Rattle.rds_store.specs.Refusals.{count_up, set_numbers}
use Rattle.uecp_lines.specs.StoreLines.{set_lines}
use Rattle.uecp_text.proofs.Public.{Leads}
use Rattle.uecp_lines.proofs.store_lines.put_sets.Given as goal

-- what is left leads to the same
abbrev pub invariant-loop-set : goal.invariant-loop-set
invariant-loop-set l =
    Leads l.fn.output l.output (flat_map (set_lines l.store) (count_up (l.store.sets + 1 - l.set) l.set))
    (flat_map (set_lines l.store) (set_numbers l.store.sets))
