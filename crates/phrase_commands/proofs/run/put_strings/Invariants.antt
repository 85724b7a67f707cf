use Rattle.std.proofs.Common.{◌≡◌, ◌+◌, ◌≤◌, ◌++◌, ℕ, List, length}
use Rattle.uecp_text.specs.Input.{lines_of}
use Rattle.uecp_text.specs.Written.{Adds}
use Rattle.phrase_commands.specs.Quoting.{AreQuoted}
use Rattle.phrase_commands.proofs.run.put_strings.Given as goal

-- the lines so far were added as strings, and the others are those of the rest
abbrev pub invariant-loop-rest : goal.invariant-loop-rest
invariant-loop-rest l = record {
  count : l.number + length l.rest ≤ 1 + length l.lines;
  so_far : (first : List (List ℕ)) × (written : List ℕ) × (lines_of l.lines ≡ first ++ lines_of l.rest)
      × AreQuoted first written × Adds l.fn.output l.output written × (l.number ≡ length first + 1);
}

abbrev pub decreases-loop-rest : goal.decreases-loop-rest
decreases-loop-rest l = length l.rest
