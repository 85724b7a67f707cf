use Rattle.std.proofs.Common.{◌*◌, arith}
use Rattle.rds_groups.proofs.Linear.{remainder_all}
use Rattle.rds_groups.proofs.protection.check_word.Goals as goal

pub returns-clause-value : goal.returns-clause-value
returns-clause-value c = remainder_all c.loop-i.i (c.from-bits.result * 1024) c.args.word c.loop-i.remainder
    (omega arith) (omega arith) c.loop-i.invariant
