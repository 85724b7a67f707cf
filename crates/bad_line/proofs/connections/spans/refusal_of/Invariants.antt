use Rattle.std.proofs.Common.{◌≡◌, max, drop}
use Rattle.bad_line.specs.Connections.{refusal_in}
use Rattle.bad_line.proofs.connections.spans.refusal_of.Given as goal

-- the longest so far, or a longer one that comes
abbrev pub invariant-loop-rule : goal.invariant-loop-rule
invariant-loop-rule l = max l.longest (refusal_in (drop l.rule-index l.rules)) ≡ refusal_in l.rules
