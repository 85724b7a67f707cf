use Rattle.std.proofs.Common.{[], ◌∷◌}
use Rattle.sqlite_image.proofs.table.image_in.Goals as goal

pub returns-in-Err-clause-refused : goal.returns-in-Err-clause-refused
returns-in-Err-clause-refused c = c.row_fault.ensures c.args.version (c.args.row.now ∷ [])

pub returns-in-Err-get-clause-refused : goal.returns-in-Err-get-clause-refused
returns-in-Err-get-clause-refused c = c.row_fault-in-Err-get.ensures c.args.version (c.args.row.now ∷ [])

pub returns-in-Err-get-2-clause-refused : goal.returns-in-Err-get-2-clause-refused
returns-in-Err-get-2-clause-refused c = c.row_fault-in-Err-get-2.ensures c.args.version (c.args.row.now ∷ [])
