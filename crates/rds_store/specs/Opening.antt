-- The opening store, and when there is none.
use Rattle.std.specs.Prelude.{ℕ, ◌==◌, Bool, false, nat_lt, ◌||◌, List, [], ◌∷◌, length, map, flat_map, if◌then◌else◌}
use Rattle.std.specs.Prelude.{Option, Some, None}
use Rattle.std.specs.List.{list_any}
use Rattle.std.specs.FinMap.{from_entries}
use Rattle.rds_store.specs.Value.{Store, ServiceData}
use Rattle.rds_store.specs.Content.{opening_service}
use Rattle.rds_store.specs.Refusals.{set_numbers}
use Rattle.rds_store.specs.declared.fault.StoreFault.{StoreFault}
use Rattle.rds_store.specs.declared.fault.StoreFault.TheVariants.{SetCount, ServiceCount, ServiceZero, ServiceTwice}

-- A service, new in each of the sets. (profile)
abbrev pub opening_places : (sets service : ℕ) → List ((ℕ × ℕ) × ServiceData)
opening_places sets service = map (λ set. ((set, service), opening_service)) (set_numbers sets)

-- Set 1 is current, each service is new in each set, and no group waits. (profile)
abbrev pub opening : (sets : ℕ) → (services : List ℕ) → Store
opening sets services = record {
  sets = sets;
  services = services;
  current = 1;
  places = from_entries (flat_map (opening_places sets) services);
  groups = [];
}

-- A number stands twice in the list.
abbrev pub has_duplicate : List ℕ → Bool
has_duplicate [] = false
has_duplicate (x ∷ xs) = list_any (λ y. x == y) xs || has_duplicate xs

-- The first that holds: not 1 to 8 sets, not 1 to 8 services, a service 00, a service that is listed twice. (profile)
abbrev pub fault_of : (sets : ℕ) → (services : List ℕ) → Option StoreFault
fault_of sets services =
    if sets == 0 || nat_lt 8 sets then Some SetCount
    else if length services == 0 || nat_lt 8 (length services) then Some ServiceCount
    else if list_any (λ s. s == 0x00) services then Some ServiceZero
    else if has_duplicate services then Some ServiceTwice
    else None
