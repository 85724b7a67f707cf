use Rattle.std.proofs.Common.{◌⊎◌, Some, IfErr, sym, subst, ◌∙◌}
use Rattle.sqlite.specs.Tree.{Trees}
use Rattle.uecp_link.specs.Server.{idle_at}
use Rattle.sqlite_image.specs.Keeper.{IsClean, MayLeave, Keeps}
use Rattle.sqlite_image.specs.Kept.{Holds, bytes_of}
use Rattle.state_files.specs.Servers.{IsOther, IsRefused, image_of, begins}
use Rattle.state_files.proofs.server_opening.server_of.Goals as goal

pub returns-in-Ok-clause-kept : goal.returns-in-Ok-clause-kept
returns-in-Ok-clause-kept g c clean =
    let before = rw c.in-Some.is at (c.requires.kept (subst (IsClean g.S.Store) c.new.ensures clean)) in
    subst (λ k. Keeps g.S.Store k (Some (image_of c.in-Ok.progress c.in-Ok.server))) (sym c.new.ensures)
    (subst (λ b. Keeps g.S.Store c.args.opened.kept (Some b)) (sym c.as_slice.ensures.value ∙ c.in-Ok.ensures.image)
    before)

pub returns-in-Err-clause-refused : goal.returns-in-Err-clause-refused
returns-in-Err-clause-refused g c =
    subst (λ o. IsRefused (bytes_of o) c.args.address c.in-Err.fault) (sym c.in-Some.is)
    (subst (λ b. IsOther c.args.address b c.in-Err.fault) c.as_slice.ensures.value c.in-Err.ensures.refused)

pub returns-in-None-clause-either : goal.returns-in-None-clause-either
returns-in-None-clause-either g c =
    subst (λ k. IfErr c.begun.result (λ e. IsClean g.S.Store e.1 → (rows : Trees) → MayLeave g.S.Store e.1 rows
    → MayLeave g.S.Store k rows ⊎ Holds k.version (Some (image_of begins (idle_at c.args.address))) rows))
    c.new-file.ensures c.begun.ensures.either
