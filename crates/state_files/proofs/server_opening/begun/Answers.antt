use Rattle.std.proofs.Common.{◌⊎◌, Some, sym, subst}
use Rattle.sqlite.specs.Tree.{Trees}
use Rattle.sqlite_image.specs.Kept.{Holds}
use Rattle.sqlite_image.specs.Keeper.{IsClean, MayLeave}
use Rattle.uecp_link.specs.Server.{idle_at}
use Rattle.state_files.specs.Servers.{image_of, begins}
use Rattle.state_files.proofs.server_opening.begun.Goals as goal

pub returns-in-Err-clause-either : goal.returns-in-Err-clause-either
returns-in-Err-clause-either g c =
    let store = g.S.Store in
    let file = c.args.file in
    subst (λ k. IsClean store k → (rows : Trees) → MayLeave store k rows
    → MayLeave store file rows ⊎ Holds file.version (Some (image_of begins (idle_at c.args.address))) rows)
    (sym c.into_kept.ensures)
    (subst (λ s. IsClean store c.put.new.self → (rows : Trees) → MayLeave store c.put.new.self rows
    → MayLeave store file rows ⊎ Holds file.version (Some (image_of begins s)) rows) c.new-server.ensures
    c.in-Err.ensures.either)
