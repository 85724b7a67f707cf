-- The messages of a store, its sets and its services tell it.
use Rattle.std.proofs.Common.{◌≡◌, ℕ, ◌+◌, ◌<◌, ◌≤◌, ◌==◌, ◌&&◌, nat_le, Bool, true, false, List, [], ◌∷◌, ◌++◌, map}
use Rattle.std.proofs.Common.{flat_map, Option, Some, None, is_some, arith, refl, ap, sym, subst, append_assoc, ◌∙◌}
use Rattle.std.proofs.lemmas.Bool.{leb-true}
use Rattle.std.specs.List.{AllByRecursion, list_any}
use Rattle.std.specs.Option.{option_map_or}
use Rattle.std.specs.FinMap.{get}
use Rattle.uecp_elements.specs.Grammar.{Element, Select, spelling}
use Rattle.rds_store.specs.Value.{ServiceData, Store}
use Rattle.rds_store.specs.Refusals.{set_numbers}
use Rattle.rds_store.specs.Laws.{IsKnownByPlaces}
use Rattle.store_phrases.specs.Said.{service_said, said_at, set_said, groups_said, said_of}
use Rattle.state_files.specs.Encoders.{IsPlaced}
use Rattle.state_files.proofs.Lists.{among, counted}
use Rattle.state_files.proofs.Spelled.{Spellings, IsEnd, same_service, same_groups}

spelled_more : (xs ys : List Element) → map spelling (xs ++ ys) ≡ map spelling xs ++ map spelling ys
spelled_more [] ys = refl
spelled_more (x ∷ xs) ys = ap (λ l. spelling x ∷ l) (spelled_more xs ys)

-- Families of elements that tell something of each number, and end where the next begins.
module _ (f : ℕ → List Element) where
  abbrev Ends : Type 0
  Ends = (n : ℕ) (xs : Spellings) → IsEnd xs → IsEnd (map spelling (f n) ++ xs)

  joined : (n : ℕ) (ns : List ℕ) (xs : Spellings)
      → map spelling (flat_map f (n ∷ ns)) ++ xs ≡ map spelling (f n) ++ (map spelling (flat_map f ns) ++ xs)
  joined n ns xs =
      ap (λ l. l ++ xs) (spelled_more (f n) (flat_map f ns))
      ∙ append_assoc (map spelling (f n)) (map spelling (flat_map f ns)) xs

  all_end : Ends → (ns : List ℕ) (xs : Spellings) → IsEnd xs → IsEnd (map spelling (flat_map f ns) ++ xs)
  all_end ends [] xs end = end
  all_end ends (n ∷ ns) xs end =
      subst IsEnd (sym (joined n ns xs)) (ends n (map spelling (flat_map f ns) ++ xs) (all_end ends ns xs end))

module _ (f g : ℕ → List Element) (R : ℕ → Type 0) (end_f : Ends f) (end_g : Ends g)
    (one : (n : ℕ) (xs ys : Spellings) → IsEnd xs → IsEnd ys → map spelling (f n) ++ xs ≡ map spelling (g n) ++ ys
    → R n × (xs ≡ ys)) where
  told_each : (ns : List ℕ) (xs ys : Spellings) → IsEnd xs → IsEnd ys
      → map spelling (flat_map f ns) ++ xs ≡ map spelling (flat_map g ns) ++ ys → AllByRecursion R ns × (xs ≡ ys)
  told_each [] xs ys end_x end_y same = (tt, same)
  told_each (n ∷ ns) xs ys end_x end_y same =
      let first = one n (map spelling (flat_map f ns) ++ xs) (map spelling (flat_map g ns) ++ ys)
      (all_end f end_f ns xs end_x) (all_end g end_g ns ys end_y)
      (sym (joined f n ns xs) ∙ same ∙ joined g n ns ys) in
      let rest = told_each ns xs ys end_x end_y first.1 in
      ((first.0, rest.0), rest.1)

-- ---- One place.

abbrev at_place : (set number : ℕ) → Option ServiceData → List Element
at_place set number o = option_map_or (service_said set number) o []

place_ends : (set number : ℕ) (o : Option ServiceData) (xs : Spellings) → IsEnd xs
    → IsEnd (map spelling (at_place set number o) ++ xs)
place_ends set number None xs end = end
place_ends set number (Some a) xs end = λ code. absurd (let codes : 0x01 ≡ 0x0A = code in omega (arith, codes))

same_place : (set number : ℕ) (o p : Option ServiceData) (xs ys : Spellings) → is_some o ≡ is_some p → IsEnd xs
    → IsEnd ys
    → map spelling (at_place set number o) ++ xs ≡ map spelling (at_place set number p) ++ ys → (o ≡ p) × (xs ≡ ys)
same_place set number None None xs ys there end_x end_y same = (refl, same)
same_place set number None (Some b) xs ys there end_x end_y same = absurd (cc)
same_place set number (Some a) None xs ys there end_x end_y same = absurd (cc)
same_place set number (Some a) (Some b) xs ys there end_x end_y same =
    let both = same_service set number a b xs ys end_x end_y same in (ap Some both.0, both.1)

-- ---- All places.

both_none : {A : Type 0} (o p : Option A) → is_some o ≡ false → is_some p ≡ false → o ≡ p
both_none None None x y = refl
both_none None (Some b) x y = absurd (cc)
both_none (Some a) p x y = absurd (cc)

both_true : (a b : Bool) → (a && b) ≡ true → (a ≡ true) × (b ≡ true)
both_true true true is = (refl, refl)
both_true true false is = absurd (cc)
both_true false b is = absurd (cc)

module _ (v w : Store) (sets : v.sets ≡ w.sets) (services : v.services ≡ w.services) (placed_v : IsPlaced v)
    (placed_w : IsPlaced w) where
  there : (place : ℕ × ℕ) → is_some (get v.places place) ≡ is_some (get w.places place)
  there place = placed_v place
      ∙ (λ i. list_any (λ s. place.1 == s) (services i) && (nat_le 1 place.0 && nat_le place.0 (sets i)))
      ∙ sym (placed_w place)

  abbrev Same : ℕ → ℕ → Type 0
  Same set number = get v.places (set, number) ≡ get w.places (set, number)

  at_ends : (u : Store) (set : ℕ) → Ends (said_at u set)
  unfolding said_at
  at_ends u set number xs end = place_ends set number (get u.places (set, number)) xs end

  at_same : (set number : ℕ) (xs ys : Spellings) → IsEnd xs → IsEnd ys
      → map spelling (said_at v set number) ++ xs ≡ map spelling (said_at w set number) ++ ys
      → Same set number × (xs ≡ ys)
  unfolding said_at
  at_same set number xs ys end_x end_y same =
      same_place set number (get v.places (set, number)) (get w.places (set, number)) xs ys (there (set, number)) end_x
      end_y same

  set_ends : (u : Store) → Ends (set_said u)
  set_ends u set xs end = all_end (said_at u set) (at_ends u set) u.services xs end

  set_same : (set : ℕ) (xs ys : Spellings) → IsEnd xs → IsEnd ys
      → map spelling (set_said v set) ++ xs ≡ map spelling (set_said w set) ++ ys
      → AllByRecursion (Same set) v.services × (xs ≡ ys)
  set_same set xs ys end_x end_y same =
      told_each (said_at v set) (said_at w set) (Same set) (at_ends v set) (at_ends w set) (at_same set) v.services xs
      ys end_x end_y
      (same ∙ ap (λ ns. map spelling (flat_map (said_at w set) ns) ++ ys) (sym services))

  abbrev tail_of : Store → Spellings
  tail_of u = map spelling (groups_said u.groups ++ Select u.current ∷ [])

  tail_ends : (u : Store) → IsEnd (tail_of u)
  tail_ends u = go u.groups
    where
      go : (gs : List _) → IsEnd (map spelling (groups_said gs ++ Select u.current ∷ []))
      go [] code = absurd (let codes : 0x1C ≡ 0x0A = code in omega (arith, codes))
      go (g ∷ gs) code = absurd (let codes : 0x24 ≡ 0x0A = code in omega (arith, codes))

  pub store_same : IsKnownByPlaces → map spelling (said_of v) ≡ map spelling (said_of w) → v ≡ w
  store_same known same =
      let front : map spelling (flat_map (set_said v) (set_numbers v.sets)) ++ tail_of v
      ≡ map spelling (flat_map (set_said w) (set_numbers v.sets)) ++ tail_of w =
      sym (spelled_more (flat_map (set_said v) (set_numbers v.sets)) (groups_said v.groups ++ Select v.current ∷ []))
      ∙ same ∙ spelled_more (flat_map (set_said w) (set_numbers w.sets)) (groups_said w.groups ++ Select w.current ∷ [])
      ∙ ap (λ k. map spelling (flat_map (set_said w) (set_numbers k)) ++ tail_of w) (sym sets) in
      let all = told_each (set_said v) (set_said w) (λ set. AllByRecursion (Same set) v.services) (set_ends v)
      (set_ends w) set_same
      (set_numbers v.sets) (tail_of v) (tail_of w) (tail_ends v) (tail_ends w) front in
      let tails = same_groups v.current w.current v.groups w.groups all.1 in
      let places : v.places ≡ w.places = known v.places w.places (λ place. each all.0 place
      (list_any (λ s. place.1 == s) v.services && (nat_le 1 place.0 && nat_le place.0 v.sets)) refl) in
      λ i. record { sets = sets i; services = services i; current = tails.1 i; places = places i; groups = tails.0 i }
    where
      each : AllByRecursion (λ set. AllByRecursion (Same set) v.services) (set_numbers v.sets) → (place : ℕ × ℕ)
          → (b : Bool)
          → (list_any (λ s. place.1 == s) v.services && (nat_le 1 place.0 && nat_le place.0 v.sets)) ≡ b
          → get v.places place ≡ get w.places place
      each all place false is =
          both_none (get v.places place) (get w.places place) (placed_v place ∙ is)
          (sym (there place) ∙ placed_v place ∙ is)
      each all place true is =
          let parts = both_true (list_any (λ s. place.1 == s) v.services) (nat_le 1 place.0 && nat_le place.0 v.sets)
          is in
          let range = both_true (nat_le 1 place.0) (nat_le place.0 v.sets) parts.1 in
          let least : 1 ≤ place.0 = leb-true 1 place.0 range.0 in
          let within : place.0 ≤ v.sets = leb-true place.0 v.sets range.1 in
          let most : place.0 < 1 + v.sets = omega (arith, within) in
          among (Same place.0) place.1 v.services
          (counted (λ set. AllByRecursion (Same set) v.services) v.sets 1 place.0 all least most) parts.0
