use Rattle.std.proofs.Common.{◌∙◌}
use Rattle.rds_store.proofs.Openings.{opening_services_more}
use Rattle.rds_store.proofs.opening_store.opening_services.Goals as goal

pub loop-number-preserved : goal.loop-number-preserved
loop-number-preserved c =
    c.in_ok-insert.ensures.entries
    ∙ opening_services_more c.args.sets c.args.services.now c.loop-number.number-index c.requires.once
    c.loop-number-test.true
    c.loop-number.opened.entries c.loop-number.invariant c.in_ok-service.service c.in_ok-service.ensures
