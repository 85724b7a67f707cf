use Rattle.sqlite_image.proofs.FileLemmas.{closed_now, closed_both, closed_left, closed_rows, closed_clean}
use Rattle.sqlite_image.proofs.file.Kept+FileStore+D.close.Goals as goal

pub returns-in-Ok-clause-alone : goal.returns-in-Ok-clause-alone
returns-in-Ok-clause-alone g c image keeps clean =
    closed_now _ _ c.self.view_is image keeps g.met.D.Disk.seen_may_stay c.in-Ok.files (c.in-Ok.ensures.copied clean)

pub returns-in-Ok-clause-left : goal.returns-in-Ok-clause-left
returns-in-Ok-clause-left g c image keeps clean left may =
    closed_left _ _ c.self.view_is image keeps g.met.D.Disk.seen_may_stay c.in-Ok.files (c.in-Ok.ensures.copied clean)
    left may

pub returns-in-Ok-clause-rows : goal.returns-in-Ok-clause-rows
returns-in-Ok-clause-rows g c clean left may = closed_rows _ _ c.self.view_is g.met.D.Disk.seen_may_stay c.in-Ok.files
    (c.in-Ok.ensures.copied clean) left may

pub returns-in-Ok-clause-both : goal.returns-in-Ok-clause-both
returns-in-Ok-clause-both g c image keeps clean =
    closed_both _ _ c.self.view_is image keeps g.met.D.Disk.seen_may_stay c.in-Ok.files (c.in-Ok.ensures.copied clean)

pub returns-in-Ok-clause-clean : goal.returns-in-Ok-clause-clean
returns-in-Ok-clause-clean g c clean = closed_clean _ _ c.self.view_is c.in-Ok.files (c.in-Ok.ensures.copied clean)
