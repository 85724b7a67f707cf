use Rattle.std.proofs.Common.{◌⊎◌, Some, sym, subst}
use Rattle.sqlite.specs.Tree.{Trees}
use Rattle.sqlite_image.specs.Kept.{Holds}
use Rattle.sqlite_image.specs.Keeper.{IsClean, MayLeave}
use Rattle.end_images.specs.Images.{encoder_image}
use Rattle.state_files.proofs.encoder_opening.first_saved.Goals as goal

pub returns-in-Err-clause-either : goal.returns-in-Err-clause-either
returns-in-Err-clause-either g c =
    let store = g.S.Store in
    let file = c.args.file in
    subst (λ k. IsClean store k → (rows : Trees) → MayLeave store k rows
    → MayLeave store file rows ⊎ Holds file.version (Some (encoder_image c.args.encoder)) rows)
    (sym c.into_kept.ensures) c.in-Err.ensures.either
