use Rattle.std.proofs.Common.{ℕ, List, ◌++◌}
use Rattle.uecp_phrases.specs.Nearest.{IsFound, names_below}
use Rattle.uecp_phrases.proofs.nearest.nearest_name.Given as goal

-- and of the names below the number
abbrev pub invariant-loop-number : goal.invariant-loop-number
invariant-loop-number l = (words : List (List ℕ)) → IsFound l.letters words l.before
    → IsFound l.letters (words ++ names_below l.region l.number) l.found
