use Rattle.std.proofs.Common.{subst, subst₂, sym, ◌≡◌, ◌≤◌, length, map, List}
use Rattle.sqlite.specs.Effect.{Database}
use Rattle.sqlite.specs.Order.{Row}
use Rattle.sqlite.specs.Held.{state}
use Rattle.sqlite_image.specs.Kept.{shown_row}
use Rattle.sqlite_image.proofs.TableLemmas.{read_finds, all_refused}
use Rattle.sqlite_image.proofs.table.read.Goals as goal

pub returns-in-Ok-clause-found : goal.returns-in-Ok-clause-found
returns-in-Ok-clause-found g c stands clean =
    let s = state g.S.Store c.rows.new.conn in
    read_finds c.args.version s c.as_slice.result.now c.image_of.result (c.in-Ok.ensures.ours stands clean)
    (subst₂ (λ (all : List Row) (db : Database). length all ≤ 1 → all ≡ map shown_row (db.trees 0))
    (sym c.as_slice.ensures.value) (sym (c.in-Ok.ensures.same stands clean)) (c.in-Ok.ensures.found stands clean))
    c.image_of.ensures.found

pub returns-in-Ok-clause-refused : goal.returns-in-Ok-clause-refused
returns-in-Ok-clause-refused g c stands clean =
    all_refused c.args.version (state g.S.Store c.args.conn.now).now c.as_slice.result.now c.image_of.result
    (subst (λ (all : List Row). length all ≤ 1 → all ≡ map shown_row ((state g.S.Store c.args.conn.now).now.trees 0))
    (sym c.as_slice.ensures.value) (c.in-Ok.ensures.found stands clean)) c.image_of.ensures.refused
