use Rattle.std.proofs.Common.{length}
use Rattle.uecp_link.specs.Window.{Hearing}
use Rattle.uecp_link.proofs.window.hear_marks.Given as goal

-- the rest brings what is left of the marks
abbrev pub invariant-loop-rest : goal.invariant-loop-rest
invariant-loop-rest l = Hearing l.fn.server l.server l.piece l.rest l.fn.marks.items l.marks.items

abbrev pub decreases-loop-rest : goal.decreases-loop-rest
decreases-loop-rest l = length l.rest
