use Rattle.std.proofs.Common.{◌≡◌, ℕ, List, Option, subst}
use Rattle.sqlite.specs.WalReads.{AreClean}
use Rattle.sqlite.specs.Files.{over_files, image_of}
use Rattle.sqlite_image.specs.Kept.{bytes_of}
use Rattle.sqlite_image.specs.Keeper.{IsClean, Keeps}
use Rattle.sqlite_image.specs.Files.{FilesHold}
use Rattle.sqlite_image.proofs.FileLemmas.{if_ok, ok_then}
use Rattle.sqlite_image.proofs.file.opened_anew.Goals as goal

pub returns-in-Ok-close-clause-found : goal.returns-in-Ok-close-clause-found
returns-in-Ok-close-clause-found g c image held =
    let files = c.in-Ok-close.files in
    if_ok (FilesHold c.args.version image (image_of g.D.Disk files))
    (λ r. IsClean over_files r.kept → AreClean g.D.Disk files.log files.db)
    (λ r. IsClean over_files r.kept → bytes_of r.image ≡ image)
    (λ r. IsClean over_files r.kept → bytes_of r.image ≡ image)
    c.opened_once-in-Ok-close.result c.opened_once-in-Ok-close.ensures.clean
    (λ holds. c.opened_once-in-Ok-close.ensures.found image holds)
    (λ r before found clean.
    let sure = before clean in
    let was = c.in-Ok-close.ensures.clean sure in
    let keeps = subst (λ (i : Option (List ℕ)). Keeps over_files c.in-Ok.opened.kept i)
    (c.in-Ok.ensures.found image held was) (c.in-Ok.ensures.kept was) in
    found (subst (λ (v : ℕ). FilesHold v image (image_of g.D.Disk files)) c.in-Ok.ensures.version
    (c.in-Ok-close.ensures.both image keeps sure)) clean)

pub returns-in-Ok-close-clause-clean : goal.returns-in-Ok-close-clause-clean
returns-in-Ok-close-clause-clean g c =
    let files = c.in-Ok-close.files in
    ok_then (λ r. IsClean over_files r.kept → AreClean g.D.Disk files.log files.db)
    (λ r. IsClean over_files r.kept → AreClean g.D.Disk c.args.files.log c.args.files.db)
    c.opened_once-in-Ok-close.result c.opened_once-in-Ok-close.ensures.clean
    (λ r before clean. c.in-Ok.ensures.clean (c.in-Ok-close.ensures.clean (before clean)))
