-- From FF on no byte stands for a character.
use Rattle.std.proofs.Common.{arith}
use Rattle.rds_text.proofs.Inverse.{none_from_ff}
use Rattle.rds_text.proofs.basic_set.byte_of.Goals as goal

pub returns-clause-none : goal.returns-clause-none
returns-clause-none c = λ byte is. grind (arith, none_from_ff byte, c.loop-byte.invariant byte, is)
