use Rattle.std.proofs.Common.{◌≡◌, ◌≤◌, ◌+◌, ℕ, List, ◌++◌, length}
use Rattle.uecp_text.specs.Input.{texts_of, numbered, lines_of}
use Rattle.bad_line.specs.Files.{AreSpelled}
use Rattle.bad_line.proofs.rules.file.read_rules.Given as goal

-- the texts of the lines so far spell the rules so far
abbrev pub invariant-loop-rest : goal.invariant-loop-rest
invariant-loop-rest l = record {
  before : List (ℕ × List ℕ);
  cut : texts_of l.text ≡ before ++ numbered (l.number + 1) (lines_of l.rest);
  spelled : AreSpelled before l.rules.items;
  within : l.number + length l.rest ≤ length l.text;
}

abbrev pub decreases-loop-rest : goal.decreases-loop-rest
decreases-loop-rest l = length l.rest
