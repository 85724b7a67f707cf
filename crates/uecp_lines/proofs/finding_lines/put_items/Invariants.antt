use Rattle.std.proofs.Common.{flat_map}
use Rattle.uecp_elements.specs.Reading.{items}
use Rattle.uecp_lines.specs.Lines.{item_line}
use Rattle.uecp_text.proofs.Public.{Leads}
use Rattle.uecp_lines.proofs.finding_lines.put_items.Given as goal

-- what is left leads to the same
abbrev pub invariant-loop-read : goal.invariant-loop-read
invariant-loop-read l = Leads l.fn.output l.output (flat_map item_line l.read-iterator)
    (flat_map item_line (items l.message))
