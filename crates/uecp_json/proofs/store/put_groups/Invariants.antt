use Rattle.std.proofs.Common.{flat_map, drop}
use Rattle.uecp_json.specs.Stores.{group_line}
use Rattle.uecp_text.proofs.Public.{Leads}
use Rattle.uecp_json.proofs.store.put_groups.Given as goal

-- what is left leads to the same
abbrev pub invariant-loop-group : goal.invariant-loop-group
invariant-loop-group l = Leads l.fn.output l.output (flat_map group_line (drop l.group-index l.groups))
    (flat_map group_line l.groups)
