use Rattle.std.proofs.Common.{ap, ◌∙◌}
use Rattle.rds_store.proofs.LawProofs.{elements_keep_sets, elements_keep_services}
use Rattle.rds_store.proofs.store.RdsStore.tried.Goals as goal

pub invariant_of-self : goal.invariant_of-self
invariant_of-self c =
    let copy = c.copy_from.new.self in (
      ap (λ r. r.0.sets) c.put_each.ensures ∙ elements_keep_sets copy c.args.message.now
          ∙ ap (λ v. v.sets) c.copy_from.ensures,
      ap (λ r. r.0.services) c.put_each.ensures ∙ elements_keep_services copy c.args.message.now
          ∙ ap (λ v. v.services) c.copy_from.ensures,
    )
