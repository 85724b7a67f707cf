use Rattle.std.proofs.Common.{arith}
use Rattle.rds_text.specs.declared.programme_type.Region.TheVariants.{Europe}
use Rattle.rds_text.proofs.Names.{none_from_32}
use Rattle.rds_text.proofs.programme_type.european.Goals as goal

pub returns-in-32-to-255-clause-none : goal.returns-in-32-to-255-clause-none
returns-in-32-to-255-clause-none c = none_from_32 Europe c.args.number (omega arith)
