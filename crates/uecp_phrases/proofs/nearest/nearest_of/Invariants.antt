use Rattle.std.proofs.Common.{map, take}
use Rattle.uecp_phrases.specs.Nearest.{IsFound}
use Rattle.uecp_phrases.proofs.nearest.nearest_of.Given as goal

-- of the words before the place
abbrev pub invariant-loop-place : goal.invariant-loop-place
invariant-loop-place l = IsFound l.letters (map (λ word. word.now) (take l.place l.words)) l.found
