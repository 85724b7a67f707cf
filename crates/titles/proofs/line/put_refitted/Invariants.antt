use Rattle.std.proofs.Common.{length}
use Rattle.std.specs.String.{string_bytes}
use Rattle.titles.proofs.Refitting.{Goes}
use Rattle.titles.proofs.line.put_refitted.Given as goal

-- the text was made to fit up to what is left of it
abbrev pub invariant-strings : goal.invariant-strings
invariant-strings l = Goes l.text l.left (string_bytes l.fn.fitted) (string_bytes l.fitted)

abbrev pub decreases-strings : goal.decreases-strings
decreases-strings l = length l.left
