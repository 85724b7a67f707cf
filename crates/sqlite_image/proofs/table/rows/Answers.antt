use Rattle.sqlite.specs.Held.{state}
use Rattle.sqlite_image.proofs.TableLemmas.{found_rows, select_survives}
use Rattle.sqlite_image.proofs.table.rows.Goals as goal

pub returns-in-Ok-clause-ours : goal.returns-in-Ok-clause-ours
returns-in-Ok-clause-ours g c stands clean =
    (found_rows (state g.S.Store c.args.conn.now) (state g.S.Store c.query_all.new.self) _ stands
    (c.in-Ok.ensures.ok clean)).0

pub returns-in-Ok-clause-same : goal.returns-in-Ok-clause-same
returns-in-Ok-clause-same g c stands clean =
    (found_rows (state g.S.Store c.args.conn.now) (state g.S.Store c.query_all.new.self) _ stands
    (c.in-Ok.ensures.ok clean)).1

pub returns-in-Ok-clause-found : goal.returns-in-Ok-clause-found
returns-in-Ok-clause-found g c stands clean =
    (found_rows (state g.S.Store c.args.conn.now) (state g.S.Store c.query_all.new.self) _ stands
    (c.in-Ok.ensures.ok clean)).2

pub returns-in-Ok-clause-crash : goal.returns-in-Ok-clause-crash
returns-in-Ok-clause-crash g c stands = select_survives (state g.S.Store c.args.conn.now)
    (state g.S.Store c.query_all.new.self) stands c.query_all.ensures.survives

pub returns-in-Err-clause-crash : goal.returns-in-Err-clause-crash
returns-in-Err-clause-crash g c stands = select_survives (state g.S.Store c.args.conn.now)
    (state g.S.Store c.query_all.new.self) stands c.query_all.ensures.survives
