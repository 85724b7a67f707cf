use Rattle.std.proofs.Common.{◌≡◌, max, drop}
use Rattle.bad_line.specs.Delays.{delay_in}
use Rattle.bad_line.proofs.rules.delays.delay_of.Given as goal

-- the longest so far, or a longer one that comes
abbrev pub invariant-loop-rule : goal.invariant-loop-rule
invariant-loop-rule l = max l.longest (delay_in l.number (drop l.rule-index l.rules)) ≡ delay_in l.number l.rules
