use Rattle.std.proofs.Common.{◌≡◌, length, sym, ap, ◌∙◌, subst}
use Rattle.std.specs.List.{AllByRecursion}
use Rattle.rds_store.proofs.Copying.{same_shape}
use Rattle.rds_store.proofs.data_sets.DataSets.copy_from.Goals as goal

pub copy_services-requires : goal.copy_services-requires
copy_services-requires c =
    let sets : c.self.inside.sets ≡ c.others.inside.sets =
    ap (λ v. v.sets) c.self.view_is ∙ c.requires.sets ∙ sym (ap (λ v. v.sets) c.others.view_is) in
    same_shape c.others.inside.sets c.self.inside.services.entries c.others.inside.services.entries
    (ap (λ v. v.services) c.self.view_is ∙ c.requires.services ∙ sym (ap (λ v. v.services) c.others.view_is))
    (subst (λ n. AllByRecursion (λ e. length e.1 ≡ n) c.self.inside.services.entries) sets c.self.invariant.all_sets)
    c.others.invariant.all_sets
