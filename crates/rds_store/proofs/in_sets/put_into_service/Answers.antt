use Rattle.std.proofs.Common.{ap, ◌∙◌, cond}
use Rattle.indexmap.specs.Layout.{set_value_at}
use Rattle.uecp_elements.specs.View.{element_of}
use Rattle.rds_store.specs.Names.{names_set}
use Rattle.rds_store.specs.Content.{taken}
use Rattle.rds_store.specs.Kept.{changed_sets}
use Rattle.rds_store.proofs.OneSet.{set_as_it_was}
use Rattle.rds_store.proofs.in_sets.put_into_service.Goals as goal

pub returns-in-Some-clause-kept : goal.returns-in-Some-clause-kept
returns-in-Some-clause-kept c = λ full.
    ap (set_value_at c.args.services.now.entries c.args.place) (c.put.ensures.taken
    ∙ ap (λ b. cond b (changed_sets 1 (names_set c.args.named.dsn c.args.named.current)
    (taken (element_of c.args.element.now)) c.in-Some.service.now) c.in-Some.service.now) full)
    ∙ set_as_it_was c.args.services.now.entries c.args.place c.in-Some.service.now c.in-Some.ensures.value
