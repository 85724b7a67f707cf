use Rattle.sqlite.specs.Held.{state}
use Rattle.sqlite_image.proofs.TableLemmas.{created_none, create_survives}
use Rattle.sqlite_image.proofs.table.create.Goals as goal

pub returns-in-Ok-clause-made : goal.returns-in-Ok-clause-made
returns-in-Ok-clause-made g c stands clean =
    created_none (state g.S.Store c.args.conn.now) (state g.S.Store c.execute.new.self) _ stands
    (rw c.in-Ok.is at (c.execute.ensures.runs clean))

pub returns-in-Ok-clause-crash : goal.returns-in-Ok-clause-crash
returns-in-Ok-clause-crash g c version stands =
    create_survives version (state g.S.Store c.args.conn.now) (state g.S.Store c.execute.new.self) stands
    c.execute.ensures.survives

pub returns-in-Err-clause-crash : goal.returns-in-Err-clause-crash
returns-in-Err-clause-crash g c version stands =
    create_survives version (state g.S.Store c.args.conn.now) (state g.S.Store c.execute.new.self) stands
    c.execute.ensures.survives
