use Rattle.std.proofs.Common.{◌-◌}
use Rattle.uecp_text.proofs.Public.{Leads}
use Rattle.ladders.specs.Text.{repeated}
use Rattle.ladders.proofs.text_drawing.put_repeated.Given as goal

-- those that are left lead to the same
abbrev pub invariant-loop-at : goal.invariant-loop-at
invariant-loop-at l = Leads l.fn.output l.output (repeated (l.count - l._at) l.part) (repeated l.count l.part)
