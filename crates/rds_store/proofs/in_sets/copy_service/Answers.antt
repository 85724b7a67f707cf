use Rattle.std.proofs.Common.{sym}
use Rattle.rds_store.proofs.Copying.{written_past}
use Rattle.rds_store.proofs.in_sets.copy_service.Goals as goal

pub returns-in-None-clause-entries : goal.returns-in-None-clause-entries
returns-in-None-clause-entries c = written_past c.args.services.now.entries c.args.place c.args.other.now
    (sym c.in-None.ensures.value)
