use Rattle.std.proofs.Common.{map, drop, true, flat_map}
use Rattle.store_phrases.specs.Said.{group_said}
use Rattle.uecp_text.proofs.Public.{Leads}
use Rattle.store_phrases.proofs.groups.put_added.Given as goal

-- what is left leads to the same
abbrev pub invariant-loop-group : goal.invariant-loop-group
invariant-loop-group g l = Leads (g.F.ElementForm.kept l.fn.output) (g.F.ElementForm.kept l.output)
    (flat_map (g.F.ElementForm.bytes l.form) (map (group_said true) (drop l.group-index l.groups)))
    (flat_map (g.F.ElementForm.bytes l.form) (map (group_said true) l.groups))
