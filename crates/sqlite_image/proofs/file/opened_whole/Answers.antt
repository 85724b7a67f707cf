use Rattle.std.proofs.Common.{ℕ, List, sym, ap₂, subst}
use Rattle.sqlite.specs.Recovery.{Image}
use Rattle.sqlite.specs.WalReads.{AreClean}
use Rattle.sqlite.specs.Files.{over_files, image_of}
use Rattle.sqlite_image.specs.Keeper.{IsClean}
use Rattle.sqlite_image.specs.Files.{FilesHold}
use Rattle.sqlite_image.specs.Log.{IsUnharmed}
use Rattle.sqlite_image.proofs.FileLemmas.{ok_then}
use Rattle.sqlite_image.proofs.file.opened_whole.Goals as goal

abbrev image : List ℕ → List ℕ → Image
image log db = record { log = log; db = db }

pub returns-in-Ok-true-clause-found : goal.returns-in-Ok-true-clause-found
returns-in-Ok-true-clause-found g c it held =
    let same = ap₂ image c.test_log.ensures.same.0.seen c.test_log.ensures.same.1.seen in
    c.opened_anew.ensures.found it (subst (FilesHold c.args.version it) (sym same) held)

pub returns-in-Ok-true-clause-unharmed : goal.returns-in-Ok-true-clause-unharmed
returns-in-Ok-true-clause-unharmed g c =
    let files = c.test_log.new.files in
    ok_then (λ r. IsClean over_files r.kept → AreClean g.D.Disk files.log files.db)
    (λ r. IsClean over_files r.kept → IsUnharmed (image_of g.D.Disk c.args.files))
    c.opened_anew.result c.opened_anew.ensures.clean
    (λ r before clean. c.in-Ok-true.ensures.unharmed (before clean))

pub returns-in-Ok-false-clause-found : goal.returns-in-Ok-false-clause-found
returns-in-Ok-false-clause-found g c it held =
    let same = ap₂ image c.test_log.ensures.same.0.seen c.test_log.ensures.same.1.seen in
    c.opened_once.ensures.found it (subst (FilesHold c.args.version it) (sym same) held)

pub returns-in-Ok-false-clause-unharmed : goal.returns-in-Ok-false-clause-unharmed
returns-in-Ok-false-clause-unharmed g c =
    let files = c.test_log.new.files in
    ok_then (λ r. IsClean over_files r.kept → AreClean g.D.Disk files.log files.db)
    (λ r. IsClean over_files r.kept → IsUnharmed (image_of g.D.Disk c.args.files))
    c.opened_once.result c.opened_once.ensures.clean
    (λ r before clean. c.in-Ok-false.ensures.unharmed (before clean))
