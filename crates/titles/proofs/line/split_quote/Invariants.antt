use Rattle.std.proofs.Common.{length, ◌-◌, ◌≡◌, ◌≤◌, true, take}
use Rattle.titles.specs.Strings.{has_no_quote}
use Rattle.titles.proofs.line.split_quote.Given as goal

-- no quote stood there so far
abbrev pub invariant-loop-place : goal.invariant-loop-place
invariant-loop-place l = record {
  most : l.place ≤ length l.text;
  none : has_no_quote (take l.place l.text) ≡ true;
}

abbrev pub decreases-loop-place : goal.decreases-loop-place
decreases-loop-place l = length l.text - l.place
