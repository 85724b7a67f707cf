use Rattle.titles.proofs.Cutting.{NoneEnds}
use Rattle.titles.proofs.cut.shown_count.Given as goal

-- no word ends behind what was left out so far
abbrev pub invariant-loop-left_out : goal.invariant-loop-left_out
invariant-loop-left_out l = NoneEnds l.text l.left_out
