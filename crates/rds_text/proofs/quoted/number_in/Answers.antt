-- Two digits spell their byte.
use Rattle.std.proofs.Common.{◌+◌, ◌*◌, arith}
use Rattle.rds_text.proofs.Spelled.{two_digits}
use Rattle.rds_text.proofs.quoted.number_in.Goals as goal

pub returns-clause-some : goal.returns-clause-some
returns-clause-some c =
    let high = c.in_ok-high.ensures in
    let low = c.in_ok-low.ensures in
    two_digits c.args.text.now c.high-item.result c.low-item.result (16 * c.in_ok-high.high + c.in_ok-low.low)
    c.in-len2-up.len_at_least c.high-item.is c.low-item.is high.0 low.0 (omega arith)
