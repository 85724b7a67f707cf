use Rattle.std.proofs.Common.{sym, ap, ◌∙◌}
use Rattle.rds_store.proofs.LawProofs.{elements_keep_sets, elements_keep_services}
use Rattle.rds_store.proofs.store.RdsStore.apply_longer.Goals as goal

pub invariant_of-self : goal.invariant_of-self
invariant_of-self c =
    let main = c.self-2.inside.main in (
      c.self-2.invariant.0 ∙ sym (ap (λ r. r.0.sets) c.put_each.ensures ∙ elements_keep_sets main c.args.message.now),
      c.self-2.invariant.1
          ∙ sym (ap (λ r. r.0.services) c.put_each.ensures ∙ elements_keep_services main c.args.message.now),
    )
