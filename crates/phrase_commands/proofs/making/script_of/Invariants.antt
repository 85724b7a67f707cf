use Rattle.std.proofs.Common.{◌+◌, ◌≤◌, length}
use Rattle.phrase_commands.proofs.Taking.{SoFar}
use Rattle.phrase_commands.proofs.making.script_of.Given as goal

-- of the lines so far the script was taken, and the others are those of the rest
abbrev pub invariant-loop-rest : goal.invariant-loop-rest
invariant-loop-rest g l = record {
  count : l.number + length l.rest ≤ 1 + length l.input;
  so_far : SoFar l.region l.input l.rest l.script.items l.number l.fn.errors l.errors;
}

abbrev pub decreases-loop-rest : goal.decreases-loop-rest
decreases-loop-rest g l = length l.rest
