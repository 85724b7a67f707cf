use Rattle.std.proofs.Common.{◌≡◌, ℕ, None, Some, MatchOption, slice_get, ap, subst}
use Rattle.rds_store.specs.Names.{service_of}
use Rattle.rds_store.proofs.OneSet.{first_named, named_place}
use Rattle.rds_store.proofs.data_sets.DataSets.place_of.Goals as goal

pub returns-then-psn-eq0 : goal.returns-then-psn-eq0
returns-then-psn-eq0 c =
    subst (λ ks. (n : ℕ) × (service_of ks c.args.psn ≡ Some n) × (slice_get ks 0 ≡ Some n))
    (ap (λ v. v.services) c.self.view_is)
    (first_named c.args.psn c.self.inside.services.entries c.if-psn-eq0.true c.self.invariant.some_service)

pub returns-else-psn-eq0 : goal.returns-else-psn-eq0
returns-else-psn-eq0 c =
    subst (λ ks. MatchOption c.get_index_of.result (service_of ks c.args.psn ≡ None) (λ i. (n : ℕ)
    × (service_of ks c.args.psn ≡ Some n) × (slice_get ks i ≡ Some n))) (ap (λ v. v.services) c.self.view_is)
    (named_place c.args.psn c.self.inside.services.entries c.get_index_of.result c.if-psn-eq0.false
    c.get_index_of.ensures.index c.get_index_of.ensures.found)
