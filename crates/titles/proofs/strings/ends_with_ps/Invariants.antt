use Rattle.std.proofs.Common.{length, ◌≡◌}
use Rattle.titles.specs.Strings.{ends_with_ps}
use Rattle.titles.proofs.strings.ends_with_ps.Given as goal

-- what is left ends as all do
abbrev pub invariant-loop-more : goal.invariant-loop-more
invariant-loop-more l = ends_with_ps l.left ≡ ends_with_ps l.characters

abbrev pub decreases-loop-more : goal.decreases-loop-more
decreases-loop-more l = length l.left
