use Rattle.std.proofs.Common.{◌≡◌, ◌++◌, drop}
use Rattle.bad_line.specs.Connections.{with_restarts}
use Rattle.bad_line.proofs.connections.spans.breaking.Given as goal

-- those so far, and then those that come
abbrev pub invariant-loop-rule : goal.invariant-loop-rule
invariant-loop-rule l = l.all.items ++ with_restarts (drop l.rule-index l.rules) ≡ with_restarts l.rules
