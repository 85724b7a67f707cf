use Rattle.std.proofs.Common.{◌≡◌, ◌≤◌, length, take}
use Rattle.uecp_phrases.specs.Written.{trimmed}
use Rattle.uecp_phrases.proofs.phrase_text.trimmed.Given as goal

abbrev pub invariant-loop-end : goal.invariant-loop-end
invariant-loop-end l = (trimmed (take l.end l.name) ≡ trimmed l.name) × (l.end ≤ length l.name)

abbrev pub decreases-loop-end : goal.decreases-loop-end
decreases-loop-end l = l.end
