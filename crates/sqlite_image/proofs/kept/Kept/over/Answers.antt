use Rattle.std.proofs.Common.{None, Some}
use Rattle.sqlite_image.proofs.KeepLemmas.{keeps_table}
use Rattle.sqlite_image.proofs.kept.Kept.over.Goals as goal

pub returns-in-Ok-Some-clause-kept : goal.returns-in-Ok-Some-clause-kept
returns-in-Ok-Some-clause-kept g c clean =
    let store = c.find.new.conn.store in
    keeps_table g.S.Store _ (g.met.S.Store.settled store) (g.met.S.Store.stays store) (Some c.in-Ok-Some.image.items)
    (rw c.in-Ok-Some.field-0-is at (c.in-Ok-Some.ensures.has clean))

pub returns-in-Ok-Some-clause-found : goal.returns-in-Ok-Some-clause-found
returns-in-Ok-Some-clause-found g c image holds clean =
    rw c.in-Ok-Some.field-0-is at (c.in-Ok-Some.ensures.found image holds clean)

pub returns-in-Ok-None-clause-kept : goal.returns-in-Ok-None-clause-kept
returns-in-Ok-None-clause-kept g c clean =
    let store = c.find.new.conn.store in
    keeps_table g.S.Store _ (g.met.S.Store.settled store) (g.met.S.Store.stays store) None
    (rw c.in-Ok-None.field-0-is at (c.in-Ok-None.ensures.has clean))

pub returns-in-Ok-None-clause-found : goal.returns-in-Ok-None-clause-found
returns-in-Ok-None-clause-found g c image holds clean =
    rw c.in-Ok-None.field-0-is at (c.in-Ok-None.ensures.found image holds clean)
