use Rattle.std.proofs.Common.{ap, ◌∙◌, arith, length}
use Rattle.std.specs.Prelude.{slice_get}
use Rattle.std.proofs.lemmas.Bool.{ne_eqb}
use Rattle.uecp_link.specs.Joining.{counters_behind}
use Rattle.uecp_link.proofs.Passing.{length-whole, whole_there, few_counters, above_there, ff_there, low_there}
use Rattle.uecp_link.proofs.joining.counter_behind.Goals as goal

pub returns-then-behind-eq0 : goal.returns-then-behind-eq0
returns-then-behind-eq0 c =
    let none = c.if-behind-eq0.true in
    let long = ap (λ n. length (counters_behind n)) none ∙ length-whole in
    let there = c.requires.there in
    ap (λ n. slice_get (counters_behind n) c.args.place) none
    ∙ whole_there c.args.place (omega (arith, long, there))

pub returns-then-place-above : goal.returns-then-place-above
returns-then-place-above c =
    let above = c.from-above.ensures in
    let below = c.if-place-above.true in
    above_there c.args.behind c.args.place (ne_eqb c.args.behind 0 c.if-behind-eq0.false) (omega (arith, above, below))

pub overflow_add-place : goal.overflow_add-place
overflow_add-place c =
    let few = few_counters c.args.behind in
    let there = c.requires.there in
    omega (arith, few, there)

pub returns-then-place-count_behind : goal.returns-then-place-count_behind
returns-then-place-count_behind c =
    ff_there c.args.behind c.args.place (ne_eqb c.args.behind 0 c.if-behind-eq0.false)
    (c.if-place-count_behind.true ∙ c.count_behind.ensures)

pub returns-else-place-count_behind : goal.returns-else-place-count_behind
returns-else-place-count_behind c =
    let above = c.from-above.ensures in
    let past = c.if-place-above.false in
    let count = c.count_behind.ensures in
    let other = c.if-place-count_behind.false in
    let there = c.requires.there in
    low_there c.args.behind c.args.place (ne_eqb c.args.behind 0 c.if-behind-eq0.false) (omega (arith, above, past))
    (omega (arith, count, other, there))
