use Rattle.std.proofs.Common.{length}
use Rattle.titles.proofs.Stringing.{Goes}
use Rattle.titles.proofs.strings.fit_string.Given as goal

-- the string was read up to what is left of it
abbrev pub invariant-parts : goal.invariant-parts
invariant-parts l = Goes l.body l.left l.fn.bytes.items l.bytes.items

abbrev pub decreases-parts : goal.decreases-parts
decreases-parts l = length l.left
