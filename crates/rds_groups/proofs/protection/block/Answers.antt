use Rattle.std.proofs.Common.{arith}
use Rattle.std.proofs.lemmas.Nat.{xor_lt}
use Rattle.rds_groups.proofs.protection.block.Goals as goal

pub returns-clause-below : goal.returns-clause-below
returns-clause-below c = omega (arith, xor_lt 10 c.check_word.result c.value.result (omega arith) (omega arith))
