use Rattle.std.proofs.Common.{◌≡◌, ◌⊎◌, Some, IfOk, IfErr, subst}
use Rattle.sqlite.specs.Tree.{Trees}
use Rattle.sqlite_image.specs.Kept.{Holds}
use Rattle.sqlite_image.specs.Keeper.{IsClean, MayLeave}
use Rattle.end_images.specs.Images.{encoder_image}
use Rattle.state_files.proofs.encoder_opening.begun.Goals as goal

pub returns-in-Ok-clause-encoder : goal.returns-in-Ok-clause-encoder
returns-in-Ok-clause-encoder g c =
    subst (λ x. IfOk c.first_saved.result (λ r. r.0 ≡ x)) c.in-Ok.ensures.encoder c.first_saved.ensures.encoder

pub returns-in-Ok-clause-either : goal.returns-in-Ok-clause-either
returns-in-Ok-clause-either g c =
    let store = g.S.Store in
    let kept = c.args.kept in
    subst (λ x. IfErr c.first_saved.result (λ e. IsClean store e.1 → (rows : Trees) → MayLeave store e.1 rows
    → MayLeave store kept rows ⊎ Holds kept.version (Some (encoder_image x)) rows)) c.in-Ok.ensures.encoder
    (subst (λ k. IfErr c.first_saved.result (λ e. IsClean store e.1 → (rows : Trees) → MayLeave store e.1 rows
    → MayLeave store k rows ⊎ Holds k.version (Some (encoder_image c.in-Ok.encoder)) rows)) c.new.ensures
    c.first_saved.ensures.either)

pub returns-in-Ok-clause-refused : goal.returns-in-Ok-clause-refused
returns-in-Ok-clause-refused g c = c.first_saved.ensures.refused c.args.sets c.args.services.now
