use Rattle.std.proofs.Common.{map, drop, true, flat_map}
use Rattle.store_phrases.specs.Said.{text_said}
use Rattle.uecp_text.proofs.Public.{Leads}
use Rattle.store_phrases.proofs.services.put_added.Given as goal

-- what is left leads to the same
abbrev pub invariant-loop-text : goal.invariant-loop-text
invariant-loop-text g l = Leads (g.F.ElementForm.kept l.fn.output) (g.F.ElementForm.kept l.output)
    (flat_map (g.F.ElementForm.bytes l.form) (map (text_said l.set l.number true) (drop l.text-index l.texts)))
    (flat_map (g.F.ElementForm.bytes l.form) (map (text_said l.set l.number true) l.texts))
