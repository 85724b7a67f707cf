use Rattle.sqlite.specs.Held.{state}
use Rattle.sqlite_image.proofs.TableLemmas.{inserted, insert_survives}
use Rattle.sqlite_image.proofs.table.insert.Goals as goal

pub returns-in-Ok-clause-made : goal.returns-in-Ok-clause-made
returns-in-Ok-clause-made g c stands clean =
    inserted c.args.version c.args.image.now (state g.S.Store c.args.conn.now) (state g.S.Store c.execute.new.self) _
    stands
    (rw (c.params-to_sql.ensures, c.params-to_sql-2.ensures, c.in-Ok.is) at (c.execute.ensures.runs clean))

pub returns-in-Ok-clause-crash : goal.returns-in-Ok-clause-crash
returns-in-Ok-clause-crash g c stands =
    insert_survives c.args.version c.args.image.now (state g.S.Store c.args.conn.now)
    (state g.S.Store c.execute.new.self) stands
    (rw (c.params-to_sql.ensures, c.params-to_sql-2.ensures) at c.execute.ensures.survives)

pub returns-in-Err-clause-crash : goal.returns-in-Err-clause-crash
returns-in-Err-clause-crash g c stands =
    insert_survives c.args.version c.args.image.now (state g.S.Store c.args.conn.now)
    (state g.S.Store c.execute.new.self) stands
    (rw (c.params-to_sql.ensures, c.params-to_sql-2.ensures) at c.execute.ensures.survives)
