use Rattle.std.proofs.Common.{◌≡◌, ◌+◌, ◌≤◌, ℕ, List, length, true}
use Rattle.uecp_text.specs.Input.{lines_of, numbered, texts_of}
use Rattle.uecp_text.specs.Run.{RunsFirst}
use Rattle.uecp_text.specs.Written.{Writes}
use Rattle.uecp_text.proofs.Runs.{Led, both}
use Rattle.uecp_text.proofs.interpreter.run_lines.Given as goal

-- what the lines so far brought is written or kept, and what the rest brings comes behind it; what is written is what
-- some first texts bring
abbrev pub invariant-loop-rest : goal.invariant-loop-rest
invariant-loop-rest g l = record {
  count : l.number + length l.rest ≤ 1 + length l.input;
  whole : l.lines.is_whole ≡ true;
  led : Led g.I.Interpreter.meaning l.fn.interpreter (texts_of l.input) l.fn.output l.interpreter
      (numbered l.number (lines_of l.rest)) (both l.output l.lines);
  some : (written : List ℕ) × RunsFirst g.I.Interpreter.meaning l.fn.interpreter (texts_of l.input) written
      × Writes l.fn.output l.output written;
}

abbrev pub decreases-loop-rest : goal.decreases-loop-rest
decreases-loop-rest g l = length l.rest
