use Rattle.sqlite_image.proofs.FileLemmas.{stopped, stopped_rows}
use Rattle.sqlite_image.proofs.file.Kept+FileStore+D.stop.Goals as goal

pub returns-clause-rows : goal.returns-clause-rows
returns-clause-rows g c clean left may =
    stopped_rows _ _ c.self.view_is c.into_store.result c.close.result c.close.ensures c.into_store.ensures.numbered
    c.into_store.ensures.sound c.into_store.ensures.quiet.outcomes clean left may

pub returns-clause-left : goal.returns-clause-left
returns-clause-left g c image keeps clean left may =
    stopped _ _ c.self.view_is image keeps c.into_store.result c.close.result c.close.ensures
    c.into_store.ensures.numbered c.into_store.ensures.sound c.into_store.ensures.quiet.outcomes clean left may
