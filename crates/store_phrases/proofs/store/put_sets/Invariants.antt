use Rattle.std.proofs.Common.{◌-◌, ◌+◌, flat_map}
use Rattle.rds_store.specs.Refusals.{count_up, set_numbers}
use Rattle.store_phrases.specs.Said.{set_said}
use Rattle.uecp_text.proofs.Public.{Leads}
use Rattle.store_phrases.proofs.store.put_sets.Given as goal

-- what is left leads to the same
abbrev pub invariant-loop-set : goal.invariant-loop-set
invariant-loop-set g l = Leads (g.F.ElementForm.kept l.fn.output) (g.F.ElementForm.kept l.output)
    (flat_map (g.F.ElementForm.bytes l.form) (flat_map (set_said l.store) (count_up (l.store.sets + 1 - l.set) l.set)))
    (flat_map (g.F.ElementForm.bytes l.form) (flat_map (set_said l.store) (set_numbers l.store.sets)))
