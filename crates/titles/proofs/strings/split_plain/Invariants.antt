use Rattle.std.proofs.Common.{length, ◌-◌, ◌≡◌, ◌≤◌, true, take}
use Rattle.std.specs.List.{list_all}
use Rattle.titles.specs.Strings.{is_plain}
use Rattle.titles.proofs.strings.split_plain.Given as goal

-- those so far stand for themselves
abbrev pub invariant-loop-place : goal.invariant-loop-place
invariant-loop-place l = record {
  most : l.place ≤ length l.text;
  plain : list_all is_plain (take l.place l.text) ≡ true;
}

abbrev pub decreases-loop-place : goal.decreases-loop-place
decreases-loop-place l = length l.text - l.place
