-- The services of the opening store.
use Rattle.std.proofs.Common.{◌≡◌, ℕ, suc, zero, ◌+◌, ◌<◌, ◌≤◌, Bool, true, false, cond, ◌||◌, ◌==◌, eqb, List, [], ◌∷◌}
use Rattle.std.proofs.Common.{◌++◌, length, map, replicate, take, get_or, Some, None, refl, sym, ap, subst, ◌∙◌, arith}
use Rattle.std.proofs.Common.{if◌then◌else◌}
use Rattle.std.proofs.lemmas.List.{length-replicate, length-map, map-append, take_more}
use Rattle.std.proofs.lemmas.List.Elements.{All-nil}
use Rattle.std.proofs.lemmas.Grind.{common_steps}
use Rattle.indexmap.specs.IndexMap.{insert_entry}
use Rattle.std.proofs.lemmas.Bool.{false≢true}
use Rattle.std.specs.List.{list_any, flat_map, AllByRecursion}
use Rattle.std.specs.Cmp.{nat_eq_equiv}
use Rattle.std.specs.Map.{lookup, keys_of}
use Rattle.rds_store.specs.Value.{ServiceData, IsGroup}
use Rattle.rds_store.specs.Content.{opening_service}
use Rattle.rds_store.specs.Refusals.{count_up}
use Rattle.rds_store.specs.Opening.{opening_places, has_duplicate, fault_of}
use Rattle.rds_store.specs.Kept.{places_of, all_places, IsKept}

places_of-replicate : (k n q : ℕ) → places_of n q (replicate k opening_service)
    ≡ map (λ set. ((set, q), opening_service)) (count_up k n)
places_of-replicate zero n q = refl
places_of-replicate (suc k) n q = ap (λ es. ((n, q), opening_service) ∷ es) (places_of-replicate k (n + 1) q)

pub all_places-opening : (sets : ℕ) (services : List ℕ)
    → all_places (map (λ n. (n, replicate sets opening_service)) services) ≡ flat_map (opening_places sets) services
all_places-opening sets [] = refl
all_places-opening sets (q ∷ services) = λ i. places_of-replicate sets 1 q i ++ all_places-opening sets services i

pub keys-opening : (sets : ℕ) (services : List ℕ)
    → keys_of (map (λ n. (n, replicate sets opening_service)) services) ≡ services
keys-opening sets [] = refl
keys-opening sets (q ∷ services) = ap (λ ks. q ∷ ks) (keys-opening sets services)

pub lengths-opening : (sets : ℕ) (services : List ℕ)
    → AllByRecursion {X = ℕ × List ServiceData} (λ e. length e.1 ≡ sets)
    (map (λ n. (n, replicate sets opening_service)) services)
lengths-opening sets [] = tt
lengths-opening sets (q ∷ services) = (length-replicate sets opening_service, lengths-opening sets services)

neither : (a b : Bool) → (a || b) ≡ false → (a ≡ false) × (b ≡ false)
neither true b h = absurd (false≢true (sym h))
neither false b h = (refl, h)

none_at : (x : ℕ) (xs : List ℕ) (i : ℕ) → list_any (λ y. eqb x y) xs ≡ false → i < length xs
    → eqb x (get_or xs i 0) ≡ false
none_at x [] i h l = absurd (omega arith)
none_at x (y ∷ xs) zero h l = (neither (eqb x y) _ h).0
none_at x (y ∷ xs) (suc i) h l = none_at x xs i (neither (eqb x y) _ h).1 (omega arith)

-- a service that is listed once is new
pub not_before : (held : List ServiceData) (xs : List ℕ) (i : ℕ) → has_duplicate xs ≡ false → i < length xs
    → lookup (eqb (get_or xs i 0)) (map (λ n. (n, held)) (take i xs)) ≡ None
not_before held [] i h l = absurd (omega arith)
not_before held (x ∷ xs) zero h l = refl
not_before held (x ∷ xs) (suc i) h l =
    let both = neither (list_any (λ y. eqb x y) xs) (has_duplicate xs) h in
    let first : eqb (get_or xs i 0) x ≡ false = nat_eq_equiv.symm (get_or xs i 0) x
    ∙ none_at x xs i both.0 (omega arith) in
    ap (λ b. cond b (Some held) (lookup (eqb (get_or xs i 0)) (map (λ n. (n, held)) (take i xs)))) first
    ∙ not_before held xs i both.1 (omega arith)

insert_new : (es : List (ℕ × List ServiceData)) (k : ℕ) (held : List ServiceData) → lookup (eqb k) es ≡ None
    → insert_entry eqb es k held ≡ es ++ (k, held) ∷ []
insert_new [] k held h = refl
insert_new (e ∷ es) k held h = by (eqb k e.0) h (insert_new es k held)
  where
    by : (b : Bool) → cond b (Some e.1) (lookup (eqb k) es) ≡ None
        → (lookup (eqb k) es ≡ None → insert_entry eqb es k held ≡ es ++ (k, held) ∷ [])
        → (if b then (e.0, held) ∷ es else e ∷ insert_entry eqb es k held) ≡ e ∷ (es ++ (k, held) ∷ [])
    by true h more = none_some h
      where
        none_some : Some e.1 ≡ None → (e.0, held) ∷ es ≡ e ∷ (es ++ (k, held) ∷ [])
        none_some h = cc
    by false h more = ap (λ rest. e ∷ rest) (more h)

-- the loop's step
pub opening_services_more : (sets : ℕ) (services : List ℕ) (i : ℕ) → has_duplicate services ≡ false
    → i < length services
    → (es : List (ℕ × List ServiceData)) → es ≡ map (λ n. (n, replicate sets opening_service)) (take i services)
    → (held : List ServiceData) → held ≡ replicate sets opening_service
    → insert_entry eqb es (get_or services i 0) held
    ≡ map (λ n. (n, replicate sets opening_service)) (take (i + 1) services)
opening_services_more sets services i once l es e held r =
    (λ j. insert_entry eqb (e j) (get_or services i 0) (r j))
    ∙ insert_new (map (λ n. (n, replicate sets opening_service)) (take i services)) (get_or services i 0)
    (replicate sets opening_service) (not_before (replicate sets opening_service) services i once l)
    ∙ sym (ap (map (λ n. (n, replicate sets opening_service))) (take_more services i 0 l)
    ∙ map-append (λ n. (n, replicate sets opening_service)) (take i services) (get_or services i 0 ∷ []))

allowed_sets : (sets : ℕ) (services : List ℕ) → fault_of sets services ≡ None → sets ≤ 8
allowed_sets sets services h = grind (arith, common_steps)

allowed_some_set : (sets : ℕ) (services : List ℕ) → fault_of sets services ≡ None → 1 ≤ sets
allowed_some_set sets services h = grind (arith, common_steps)

allowed_services : (sets : ℕ) (services : List ℕ) → fault_of sets services ≡ None → 0 < length services
allowed_services sets services h = grind (arith, common_steps)

allowed_count : (sets : ℕ) (services : List ℕ) → fault_of sets services ≡ None → length services ≤ 8
allowed_count sets services h = grind (arith, common_steps)

allowed_numbers : (sets : ℕ) (services : List ℕ) → fault_of sets services ≡ None
    → list_any (λ s. s == 0x00) services ≡ false
allowed_numbers sets services h = grind (arith, common_steps)

pub kept_opening : (sets : ℕ) (services : List ℕ) → fault_of sets services ≡ None
    → IsKept sets 1 (map (λ n. (n, replicate sets opening_service)) services) []
kept_opening sets services h = record {
  some_set = allowed_some_set sets services h;
  current_from_1 = omega arith;
  current_there = allowed_some_set sets services h;
  few_groups = omega arith;
  groups_in_range = All-nil IsGroup;
  few_sets = allowed_sets sets services h;
  some_service = let some : 0 < length services = allowed_services sets services h in rw length-map some;
  few_services = let few : length services ≤ 8 = allowed_count sets services h in
      subst (λ keys. length keys ≤ 8) (sym (keys-opening sets services)) few;
  all_sets = lengths-opening sets services;
  no_zero = ap (list_any (λ s. s == 0x00)) (keys-opening sets services) ∙ allowed_numbers sets services h;
}
