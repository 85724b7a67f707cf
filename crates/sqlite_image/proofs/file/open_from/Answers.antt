use Rattle.std.proofs.Common.{ℕ, Bool, cond, List, sym, ap₂, subst}
use Rattle.sqlite_disk.specs.Events.{Event, replay}
use Rattle.sqlite.specs.Recovery.{Image}
use Rattle.std.specs.Prelude.{IfOk}
use Rattle.sqlite.specs.Files.{over_files}
use Rattle.sqlite_image.specs.Keeper.{IsClean}
use Rattle.sqlite_image.specs.Files.{FilesHold}
use Rattle.sqlite_image.specs.Log.{IsUnharmed}
use Rattle.sqlite_image.proofs.file.open_from.Goals as goal

abbrev image : List ℕ → List ℕ → Image
image log db = record { log = log; db = db }

abbrev seen : List ℕ → List ℕ → Bool → List Event → List ℕ
seen log db is_log history = (replay (cond is_log log db) history).seen

pub returns-clause-found : goal.returns-clause-found
returns-clause-found g c it held =
    let (log, db) = c.in-Ok.ensures.fresh in
    let same = ap₂ image (ap₂ (seen g.S.Start.log g.S.Start.db) log.0 log.1)
    (ap₂ (seen g.S.Start.log g.S.Start.db) db.0 db.1) in
    c.opened_whole.ensures.found it (subst (FilesHold c.args.version it) (sym same) held)

pub returns-clause-unharmed : goal.returns-clause-unharmed
returns-clause-unharmed g c =
    let (log, db) = c.in-Ok.ensures.fresh in
    let same = ap₂ image (ap₂ (seen g.S.Start.log g.S.Start.db) log.0 log.1)
    (ap₂ (seen g.S.Start.log g.S.Start.db) db.0 db.1) in
    subst (λ (i : Image). IfOk c.opened_whole.result (λ r. IsClean over_files r.kept → IsUnharmed i)) same
    c.opened_whole.ensures.unharmed
