-- How the code keeps the data: each service by its number, with what it has in set 1 first; and which places that
-- stands for. No public clause cites this.
use Rattle.std.specs.Prelude.{◌≡◌, ℕ, ◌+◌, ◌<◌, ◌≤◌, Bool, false, ◌&&◌, ◌||◌, ◌==◌, ◌-◌, nat_lt, slice_get, Option}
use Rattle.std.specs.Prelude.{None, List, [], ◌∷◌, ◌++◌, length, map, if◌then◌else◌}
use Rattle.std.specs.List.{All, AllByRecursion, list_any}
use Rattle.std.specs.Map.{keys_of}
use Rattle.rds_store.specs.declared.group.Group.{Group}
use Rattle.rds_store.specs.Value.{ServiceData, IsGroup}
use Rattle.rds_store.specs.Refusals.{is_full}

-- What a service has, as places with what stands there; its first set is `set`.
abbrev pub places_of : (set service : ℕ) → List ServiceData → List ((ℕ × ℕ) × ServiceData)
places_of set service [] = []
places_of set service (s ∷ ss) = ((set, service), s) ∷ places_of (set + 1) service ss

-- What all services have, as places with what stands there, service by service.
abbrev pub all_places : List (ℕ × List ServiceData) → List ((ℕ × ℕ) × ServiceData)
all_places [] = []
all_places (e ∷ es) = places_of 1 e.0 e.1 ++ all_places es

-- What a service has once each set that passes the test took the change; its first set is `set`.
abbrev pub changed_sets : (set : ℕ) → (ℕ → Bool) → (ServiceData → ServiceData) → List ServiceData → List ServiceData
changed_sets set test change [] = []
changed_sets set test change (s ∷ ss) = (if test set then change s else s) ∷ changed_sets (set + 1) test change ss

-- What all services have once one of them was so changed.
abbrev pub changed_service : (service : ℕ) → (ℕ → Bool) → (ServiceData → ServiceData) → List (ℕ × List ServiceData)
    → List (ℕ × List ServiceData)
changed_service service test change [] = []
changed_service service test change (e ∷ es) =
    if service == e.0 then (e.0, changed_sets 1 test change e.1) ∷ es else e ∷ changed_service service test change es

-- The service is full in a set that passes the test; its first set is `set`.
abbrev pub any_set_full : (set : ℕ) → (ℕ → Bool) → List ServiceData → Bool
any_set_full set test [] = false
any_set_full set test (s ∷ ss) = (test set && is_full s) || any_set_full (set + 1) test ss

-- What is so of every store: there are 1 to 8 sets and one of them is current, at most 32 groups wait and each is in
-- range, there are 1 to 8 services, each has something in every set, and none is 00.
pub record IsKept (sets current : ℕ) (services : List (ℕ × List ServiceData)) (groups : List Group) : Type 0 where
  pub some_set : 1 ≤ sets
  pub few_sets : sets ≤ 8
  pub current_from_1 : 1 ≤ current
  pub current_there : current ≤ sets
  pub few_groups : length groups ≤ 32
  pub groups_in_range : All IsGroup groups
  pub some_service : 0 < length services
  pub few_services : length (keys_of services) ≤ 8
  pub all_sets : AllByRecursion (λ e. length e.1 ≡ sets) services
  pub no_zero : list_any (λ s. s == 0x00) (keys_of services) ≡ false

-- The services, and how many sets each has something in.
abbrev pub shape_of : List (ℕ × List ServiceData) → List (ℕ × ℕ)
shape_of services = map (λ e. (e.0, length e.1)) services

-- The place is at this service, in a set that passes the test.
abbrev pub at_service : (ℕ → Bool) → (service : ℕ) → (ℕ × ℕ) → Bool
at_service test service place = test place.0 && (service == place.1)

-- What a service has in a set; its first set is `first`.
abbrev pub in_set : (first : ℕ) → List ServiceData → (set : ℕ) → Option ServiceData
in_set first held set = if nat_lt set first then None else slice_get held (set - first)
