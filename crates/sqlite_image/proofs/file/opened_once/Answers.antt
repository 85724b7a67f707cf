use Rattle.std.proofs.Common.{◌≡◌}
use Rattle.sqlite.specs.State.{HasCleanDisk}
use Rattle.sqlite.specs.WalReads.{AreClean}
use Rattle.sqlite.specs.Files.{file_state, over_files, image_of}
use Rattle.sqlite_image.specs.Kept.{Holds, bytes_of}
use Rattle.sqlite_image.specs.Keeper.{IsClean}
use Rattle.sqlite_image.proofs.FileLemmas.{found_in, if_ok, ok_then}
use Rattle.sqlite_image.proofs.file.opened_once.Goals as goal

pub opened_over-requires : goal.opened_over-requires
opened_over-requires g c clean = (c.in-Ok.ensures.opened clean).0

pub returns-clause-found : goal.returns-clause-found
returns-clause-found g c image held =
    if_ok (Holds c.args.version image (file_state c.in-Ok.conn).now.trees)
    (λ r. IsClean over_files r.kept → HasCleanDisk (file_state c.in-Ok.conn))
    (λ r. IsClean over_files r.kept → bytes_of r.image ≡ image)
    (λ r. IsClean over_files r.kept → bytes_of r.image ≡ image) c.opened_over.result c.opened_over.ensures.clean
    (λ holds. c.opened_over.ensures.found image holds)
    (λ r before found clean.
    let finds = c.in-Ok.ensures.found (before clean) in
    found_in c.args.version image _ (image_of g.D.Disk c.args.files) (file_state c.in-Ok.conn) held
    (c.in-Ok.ensures.opened (before clean)).0 (record { holds = finds.holds; reads = finds.reads })
    (λ holds. found holds clean))

pub returns-clause-clean : goal.returns-clause-clean
returns-clause-clean g c =
    ok_then (λ r. IsClean over_files r.kept → HasCleanDisk (file_state c.in-Ok.conn))
    (λ r. IsClean over_files r.kept → AreClean g.D.Disk c.args.files.log c.args.files.db)
    c.opened_over.result c.opened_over.ensures.clean
    (λ r before clean. (c.in-Ok.ensures.found (before clean)).honest)
