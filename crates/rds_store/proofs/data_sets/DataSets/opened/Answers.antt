use Rattle.std.proofs.Common.{ℕ, List, ap, ◌∙◌}
use Rattle.std.specs.Map.{keys_of}
use Rattle.std.specs.FinMap.{from_entries}
use Rattle.rds_store.specs.Value.{place_cmp, Store, Data}
use Rattle.rds_store.specs.declared.group.Group.{Group}
use Rattle.rds_store.specs.Kept.{all_places}
use Rattle.rds_store.proofs.Openings.{kept_opening, keys-opening, all_places-opening}
use Rattle.rds_store.proofs.data_sets.DataSets.opened.Goals as goal

made : (sets : ℕ) → List ℕ → Data → List Group → Store
made sets services places groups = record {
  sets = sets;
  services = services;
  current = 1;
  places = places;
  groups = groups;
}

pub invariant_of-result : goal.invariant_of-result
invariant_of-result c = rw (c.in_ok-opening_services.ensures, c.new.ensures)
    (kept_opening c.args.sets c.args.services.now c.requires)

pub returns : goal.returns
unfolding made
returns c =
    let services = c.in_ok-opening_services.ensures in
    let keys = ap keys_of services ∙ keys-opening c.args.sets c.args.services.now in
    let places = ap (λ r. from_entries {R = place_cmp} (all_places r)) services
    ∙ ap (λ l. from_entries {R = place_cmp} l) (all_places-opening c.args.sets c.args.services.now) in
    λ i. made c.args.sets (keys i) (places i) (c.new.ensures i)
