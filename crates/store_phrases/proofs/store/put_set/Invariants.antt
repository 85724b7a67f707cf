use Rattle.std.proofs.Common.{flat_map, drop, length, ◌-◌}
use Rattle.store_phrases.specs.Said.{said_at, set_said}
use Rattle.uecp_text.proofs.Public.{Leads}
use Rattle.store_phrases.proofs.store.put_set.Given as goal

-- what is left leads to the same
abbrev pub invariant-loop-number : goal.invariant-loop-number
invariant-loop-number g l = Leads (g.F.ElementForm.kept l.fn.output) (g.F.ElementForm.kept l.output)
    (flat_map (g.F.ElementForm.bytes l.form) (flat_map (said_at l.store l.set) (drop l.place l.store.services)))
    (flat_map (g.F.ElementForm.bytes l.form) (set_said l.store l.set))

abbrev pub decreases-loop-number : goal.decreases-loop-number
decreases-loop-number g l = length l.store.services - l.place
