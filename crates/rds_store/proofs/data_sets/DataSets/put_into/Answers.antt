use Rattle.std.proofs.Common.{◌≡◌, ℕ, List, ◌&&◌, not, slice_get, ap, ◌∙◌}
use Rattle.std.specs.Map.{keys_of}
use Rattle.std.specs.FinMap.{from_entries}
use Rattle.uecp_elements.specs.View.{element_of}
use Rattle.rds_store.specs.Value.{place_cmp, Store, Data, ServiceData}
use Rattle.rds_store.specs.declared.group.Group.{Group}
use Rattle.rds_store.specs.Names.{names_set}
use Rattle.rds_store.specs.Content.{taken}
use Rattle.rds_store.specs.Refusals.{has_full_set, adds_text}
use Rattle.rds_store.specs.Put.{change_where}
use Rattle.rds_store.specs.Kept.{all_places, at_service, changed_service}
use Rattle.rds_store.proofs.Places.{keys-changed_service, places_changed}
use Rattle.rds_store.proofs.OneSet.{if_some, changed_at, room_at, still_kept}
use Rattle.rds_store.proofs.data_sets.DataSets.put_into.Goals as goal

pub invariant_of-self : goal.invariant_of-self
invariant_of-self c =
    let put = c.put_into_service.ensures in
    still_kept c.self.inside.services.entries c.put_into_service.new.services.entries c.args.place
    (names_set c.args.dsn c.self.inside.current) (taken (element_of c.args.element.now))
    (adds_text (element_of c.args.element.now)) c.put_into_service.result put.unique put.room put.taken put.absent
    put.kept c.self.inside.sets c.self.inside.current c.self.inside.groups.items c.self.invariant

pub returns-clause-room : goal.returns-clause-room
returns-clause-room c =
    let put = c.put_into_service.ensures in
    if_some (slice_get c.args.self.now.services c.args.place) (λ number. c.put_into_service.result
    ≡ not (adds_text (element_of c.args.element.now) && has_full_set c.args.self.now c.args.dsn number))
    (λ n at. room_at c.self.inside.services.entries c.put_into_service.new.services.entries c.args.place
    (names_set c.args.dsn c.self.inside.current) (taken (element_of c.args.element.now))
    (adds_text (element_of c.args.element.now)) c.put_into_service.result put.unique put.room put.taken put.absent
    put.kept c.self.inside.sets n c.self.invariant.all_sets (ap (λ v. slice_get v.services c.args.place) c.self.view_is
    ∙ at)
    ∙ ap (λ v. not (adds_text (element_of c.args.element.now) && has_full_set v c.args.dsn n)) c.self.view_is)

made : (sets current : ℕ) → List Group → List ℕ → Data → Store
made sets current groups services places = record {
  sets = sets;
  services = services;
  current = current;
  places = places;
  groups = groups;
}

changed_store : (dsn number : ℕ) → (ServiceData → ServiceData) → Store → Store
changed_store dsn number change v =
    record v { places = change_where (at_service (names_set dsn v.current) number) change v.places }

pub returns-clause-taken : goal.returns-clause-taken
unfolding made changed_store
returns-clause-taken c =
    let put = c.put_into_service.ensures in
    let test = names_set c.args.dsn c.self.inside.current in
    let change = taken (element_of c.args.element.now) in
    let es = c.self.inside.services.entries in
    let new = c.put_into_service.new.services.entries in
    if_some (slice_get c.args.self.now.services c.args.place) _ (λ n at done.
    let services : new ≡ changed_service n test change es =
    changed_at es new c.args.place test change (adds_text (element_of c.args.element.now)) c.put_into_service.result
    put.unique put.room put.taken put.absent put.kept n
    (ap (λ v. slice_get v.services c.args.place) c.self.view_is ∙ at) done in
    let keys : keys_of new ≡ keys_of es = ap keys_of services ∙ keys-changed_service n test change es in
    let places : from_entries {R = place_cmp} (all_places new)
    ≡ change_where (at_service test n) change (from_entries (all_places es)) =
    ap (λ r. from_entries {R = place_cmp} (all_places r)) services
    ∙ places_changed n test change es put.unique in
    (λ i. made c.self.inside.sets c.self.inside.current c.self.inside.groups.items (keys i) (places i))
    ∙ ap (changed_store c.args.dsn n change) c.self.view_is)
