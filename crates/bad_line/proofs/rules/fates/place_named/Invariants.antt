use Rattle.std.proofs.Common.{◌≡◌, drop}
use Rattle.bad_line.specs.Fates.{named_place}
use Rattle.bad_line.proofs.rules.fates.place_named.Given as goal

-- the rules that were passed name no place
abbrev pub invariant-loop-rule : goal.invariant-loop-rule
invariant-loop-rule l =
    named_place l.rules l.way l.number l.length ≡ named_place (drop l.rule-index l.rules) l.way l.number l.length
