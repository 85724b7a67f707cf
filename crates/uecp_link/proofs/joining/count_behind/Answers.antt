use Rattle.std.proofs.Common.{arith}
use Rattle.std.proofs.lemmas.Bool.{lt-ltb, le-ltb, ne_eqb}
use Rattle.uecp_link.proofs.Passing.{length-early, length-late}
use Rattle.uecp_link.proofs.joining.count_behind.Goals as goal

pub returns-then-behind-lt-OLDEST_KEPT : goal.returns-then-behind-lt-OLDEST_KEPT
returns-then-behind-lt-OLDEST_KEPT c =
    let long = length-early c.args.behind (ne_eqb c.args.behind 0 c.if-behind-eq0.false)
    (lt-ltb c.args.behind 0x81 c.if-behind-lt-OLDEST_KEPT.true) in
    let above = c.from-above.ensures in
    omega (arith, long, above)

pub returns-else-behind-lt-OLDEST_KEPT : goal.returns-else-behind-lt-OLDEST_KEPT
returns-else-behind-lt-OLDEST_KEPT c =
    let long = length-late c.args.behind (ne_eqb c.args.behind 0 c.if-behind-eq0.false)
    (le-ltb c.args.behind 0x81 c.if-behind-lt-OLDEST_KEPT.false) in
    let above = c.from-above.ensures in
    omega (arith, long, above)
