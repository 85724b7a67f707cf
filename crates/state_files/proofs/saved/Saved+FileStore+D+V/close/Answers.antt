use Rattle.std.proofs.Common.{Some, IfOk, subst}
use Rattle.sqlite.specs.Files.{over_files}
use Rattle.sqlite_image.specs.Keeper.{Keeps}
use Rattle.sqlite_image.specs.Files.{AreClosed}
use Rattle.state_files.proofs.saved.Saved+FileStore+D+V.close.Goals as goal

pub returns : goal.returns
returns g c image =
    subst (λ k. Keeps over_files k (Some image) → IfOk c.closed.result (λ files. AreClosed g.D.Disk files k.version
    (Some image))) c.into_kept.ensures (c.closed.ensures.left (Some image))
