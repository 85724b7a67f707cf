use Rattle.sqlite.specs.Held.{state}
use Rattle.sqlite_image.proofs.TableLemmas.{updated, update_survives}
use Rattle.sqlite_image.proofs.table.update.Goals as goal

pub returns-in-Ok-clause-made : goal.returns-in-Ok-clause-made
returns-in-Ok-clause-made g c version old stands clean =
    updated version old c.args.image.now (state g.S.Store c.args.conn.now) (state g.S.Store c.execute.new.self) _ stands
    (rw (c.params-to_sql.ensures, c.in-Ok.is) at (c.execute.ensures.runs clean))

pub returns-in-Ok-clause-crash : goal.returns-in-Ok-clause-crash
returns-in-Ok-clause-crash g c version old stands =
    update_survives version old c.args.image.now (state g.S.Store c.args.conn.now) (state g.S.Store c.execute.new.self)
    stands
    (rw c.params-to_sql.ensures at c.execute.ensures.survives)

pub returns-in-Err-clause-crash : goal.returns-in-Err-clause-crash
returns-in-Err-clause-crash g c version old stands =
    update_survives version old c.args.image.now (state g.S.Store c.args.conn.now) (state g.S.Store c.execute.new.self)
    stands
    (rw c.params-to_sql.ensures at c.execute.ensures.survives)
