use Rattle.std.proofs.Common.{sym, ap, ◌∙◌, is_some, ◌&&◌, nat_le, ◌==◌}
use Rattle.std.specs.List.{list_any}
use Rattle.std.specs.FinMap as places
use Rattle.rds_store.proofs.Places.{get-all_places, some_at}
use Rattle.rds_store.proofs.store.RdsStore.service_count.Goals as goal

pub returns-clause-there : goal.returns-clause-there
returns-clause-there c place =
    let same = ap (λ w. w.main) c.self-inside.view_is ∙ c.self.view_is in
    ap (λ v. is_some (places.get v.places (place.0, place.1))) (sym same)
    ∙ ap is_some (get-all_places c.self-inside.inside.0.0.sets place.0 place.1 c.self-inside.inside.0.0.services.entries
    c.self-inside.invariant.all_sets)
    ∙ some_at c.self-inside.inside.0.0.sets place.0 place.1 c.self-inside.inside.0.0.services.entries
    c.self-inside.invariant.all_sets
    ∙ ap (λ v. list_any (λ s. place.1 == s) v.services && (nat_le 1 place.0 && nat_le place.0 v.sets)) same
