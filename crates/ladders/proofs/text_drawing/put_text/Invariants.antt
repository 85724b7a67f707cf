use Rattle.std.proofs.Common.{drop, flat_map}
use Rattle.uecp_text.proofs.Public.{Leads}
use Rattle.ladders.specs.Text.{text_row, text_ladder}
use Rattle.ladders.proofs.text_drawing.put_text.Given as goal

-- the rows that are left lead to the same
abbrev pub invariant-loop-row : goal.invariant-loop-row
invariant-loop-row l = Leads l.fn.output l.output (flat_map text_row (drop l.row-index l.rows)) (text_ladder l.rows)
