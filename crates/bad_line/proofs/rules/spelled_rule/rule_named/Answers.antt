use Rattle.std.proofs.Common.{rules, ◌≡◌, codes}
use Rattle.bad_line.proofs.rules.spelled_rule.rule_named.Goals as goal

pub returns-then-eq-clause-other : goal.returns-then-eq-clause-other
returns-then-eq-clause-other c =
    let same : c.args.name.now ≡ codes "lose" = search rules in
    rw same c.loss.ensures.other

pub returns-then-eq-2-clause-other : goal.returns-then-eq-2-clause-other
returns-then-eq-2-clause-other c =
    let same : c.args.name.now ≡ codes "repeat" = search rules in
    rw same c.repetition.ensures.other

pub returns-then-eq-3-clause-other : goal.returns-then-eq-3-clause-other
returns-then-eq-3-clause-other c =
    let same : c.args.name.now ≡ codes "damage" = search rules in
    rw same c.damage.ensures.other

pub returns-then-eq-4-clause-other : goal.returns-then-eq-4-clause-other
returns-then-eq-4-clause-other c =
    let same : c.args.name.now ≡ codes "break" = search rules in
    rw same c.ending.ensures.other

pub returns-then-eq-5-clause-other : goal.returns-then-eq-5-clause-other
returns-then-eq-5-clause-other c =
    let same : c.args.name.now ≡ codes "delay" = search rules in
    rw same c.delay.ensures.other

pub returns-then-eq-6-clause-other : goal.returns-then-eq-6-clause-other
returns-then-eq-6-clause-other c =
    let same : c.args.name.now ≡ codes "pace" = search rules in
    rw same c.pace.ensures.other

pub returns-then-eq-7-clause-other : goal.returns-then-eq-7-clause-other
returns-then-eq-7-clause-other c =
    let same : c.args.name.now ≡ codes "refuse" = search rules in
    rw same c.refusal.ensures.other

pub returns-then-eq-8-clause-other : goal.returns-then-eq-8-clause-other
returns-then-eq-8-clause-other c =
    let same : c.args.name.now ≡ codes "restart" = search rules in
    rw same c.restart.ensures.other
