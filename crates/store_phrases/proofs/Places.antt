-- The elements of the services of a store leave what it has at each place.
use Rattle.std.proofs.Common.{◌≡◌, ℕ, ◌+◌, ◌<◌, ◌≤◌, ◌==◌, nat_le, Bool, true, false, ◌&&◌, ◌||◌, List, [], ◌∷◌}
use Rattle.std.proofs.Common.{flat_map, Option, Some, None, is_some, refl, sym, ap, subst, ◌∙◌, arith, suc, zero}
use Rattle.std.proofs.Common.{◌⊎◌, inl, inr}
use Rattle.std.proofs.lemmas.Bool.{false≢true, leb-true, le-leb, eq-eqb, cases_order}
use Rattle.std.specs.Cmp.{nat_eq_equiv}
use Rattle.std.specs.Option.{option_map_or}
use Rattle.std.specs.List.{list_any, AllByRecursion}
use Rattle.std.specs.FinMap.{get}
use Rattle.uecp_elements.specs.Grammar.{Element}
use Rattle.rds_store.specs.Value.{ServiceData, Store}
use Rattle.rds_store.specs.Refusals.{count_up, set_numbers}
use Rattle.rds_store.specs.Laws.{PutsEach}
use Rattle.store_phrases.specs.Said.{service_said, said_at, set_said}
use Rattle.store_phrases.specs.Station.{is_place, IsStation}
use Rattle.store_phrases.proofs.Placed.{is_at, at_is, placed, get-placed_there, get-placed_other}
use Rattle.store_phrases.proofs.OneService.{puts_append, puts_all, service_left}

-- On the way from the store w to what v has: sets, services and groups have not changed, each place is there, and where
-- nothing is left to say it has what v has.
pub record IsBetween (v w x : Store) (left : ℕ × ℕ → Bool) : Type 0 where
  pub sets : x.sets ≡ v.sets
  pub services : x.services ≡ v.services
  pub groups : x.groups ≡ w.groups
  pub there : (place : ℕ × ℕ) → is_some (get x.places place) ≡ is_some (get v.places place)
  pub same : (place : ℕ × ℕ) → left place ≡ false → get x.places place ≡ get v.places place

-- The elements can be put, and then that is left.
abbrev pub Reaches : (v w x : Store) → List Element → (left : ℕ × ℕ → Bool) → Type 0
Reaches v w x es left = (u : Store) × PutsEach x es u × IsBetween v w u left

or_assoc : (a b c : Bool) → ((a || b) || c) ≡ (a || (b || c))
or_assoc true b c = refl
or_assoc false b c = refl

or_right : (a b : Bool) → b ≡ true → (a || b) ≡ true
or_right true b h = refl
or_right false b h = h

some_of : (o : Option ServiceData) → is_some o ≡ true → (s : ServiceData) × (o ≡ Some s)
some_of None h = absurd (false≢true h)
some_of (Some s) h = (s, refl)

none_of : (o : Option ServiceData) → is_some o ≡ false → o ≡ None
none_of None h = refl
none_of (Some s) h = absurd (false≢true (sym h))

pub all_more : {A : Type 0} (P Q : A → Type 0) → ((x : A) → P x → Q x) → (xs : List A) → AllByRecursion P xs
    → AllByRecursion Q xs
all_more P Q f [] h = tt
all_more P Q f (x ∷ xs) h = (f x h.0, all_more P Q f xs h.1)

all_both : {A : Type 0} (P Q : A → Type 0) (xs : List A) → AllByRecursion P xs → AllByRecursion Q xs
    → AllByRecursion (λ x. P x × Q x) xs
all_both P Q [] h k = tt
all_both P Q (x ∷ xs) h k = ((h.0, k.0), all_both P Q xs h.1 k.1)

-- each number is listed
all_listed : (ns : List ℕ) → AllByRecursion (λ n. list_any (λ k. n == k) ns ≡ true) ns
all_listed [] = tt
all_listed (n ∷ ns) = (
  ap (λ b. b || list_any (λ k. n == k) ns) (eq-eqb n n refl),
  all_more (λ m. list_any (λ k. m == k) ns ≡ true) (λ m. list_any (λ k. m == k) (n ∷ ns) ≡ true)
      (λ m h. or_right (m == n) (list_any (λ k. m == k) ns) h) ns (all_listed ns),
)

-- numbers that are counted up
pub counted : (n first : ℕ) → AllByRecursion (λ k. (first ≤ k) × (k < first + n)) (count_up n first)
counted zero first = tt
counted (suc n) first = (
  (omega arith, omega arith),
  all_more (λ k. (first + 1 ≤ k) × (k < (first + 1) + n)) (λ k. (first ≤ k) × (k < first + suc n))
      (λ k h. let low = h.0 in let high = h.1 in (omega arith, omega arith)) (count_up n (first + 1))
      (counted n (first + 1)),
)

pub in_count : (test : ℕ → Bool) (n first k : ℕ) → first ≤ k → k < first + n → test k ≡ true
    → list_any test (count_up n first) ≡ true
in_count test zero first k low high h = absurd (omega arith)
in_count test (suc n) first k low high h = by (cases_order first k) (in_count test n (first + 1) k)
  where
    by : (first ≡ k) ⊎ ((first < k) ⊎ (k < first))
        → (first + 1 ≤ k → k < (first + 1) + n → test k ≡ true → list_any test (count_up n (first + 1)) ≡ true)
        → (test first || list_any test (count_up n (first + 1))) ≡ true
    by (inl e) more = ap (λ b. b || list_any test (count_up n (first + 1))) (ap test e ∙ h)
    by (inr (inl l)) more = or_right (test first) _ (more (omega arith) (omega arith) h)
    by (inr (inr l)) more = absurd (omega arith)

-- a place of one of these services in the set
abbrev pub left_in : (set : ℕ) → (numbers : List ℕ) → ℕ × ℕ → Bool
left_in set numbers q = list_any (λ number. is_at set number q) numbers

-- ---- One place.
less : (v w x : Store) (left left' : ℕ × ℕ → Bool) → ((q : ℕ × ℕ) → left q ≡ left' q) → IsBetween v w x left
    → IsBetween v w x left'
less v w x left left' h between = record {
  sets = between.sets;
  services = between.services;
  groups = between.groups;
  there = between.there;
  same = λ q done. between.same q (h q ∙ done);
}

module _ (v w x : Store) (set number : ℕ) (left : ℕ × ℕ → Bool) (s t : ServiceData)
    (had : get v.places (set, number) ≡ Some s) (has : get x.places (set, number) ≡ Some t)
    (between : IsBetween v w x (λ q. is_at set number q || left q)) where
  placed_same : (q : ℕ × ℕ) → left q ≡ false → get (placed x set number s).places q ≡ get v.places q
  placed_same q done = by (is_at set number q) refl
    where
      by : (b : Bool) → is_at set number q ≡ b → get (placed x set number s).places q ≡ get v.places q
      by true e = ap (get (placed x set number s).places) (at_is set number q e)
          ∙ get-placed_there x set number s t has ∙ sym had ∙ ap (get v.places) (sym (at_is set number q e))
      by false e = get-placed_other x set number s q e ∙ between.same q (λ i. e i || done i)

  placed_there : (q : ℕ × ℕ) → is_some (get (placed x set number s).places q) ≡ is_some (get v.places q)
  placed_there q = by (is_at set number q) refl
    where
      by : (b : Bool) → is_at set number q ≡ b
          → is_some (get (placed x set number s).places q) ≡ is_some (get v.places q)
      by true e = ap is_some (ap (get (placed x set number s).places) (at_is set number q e)
          ∙ get-placed_there x set number s t has ∙ sym had ∙ ap (get v.places) (sym (at_is set number q e)))
      by false e = ap is_some (get-placed_other x set number s q e) ∙ between.there q

  after_one : IsBetween v w (placed x set number s) left
  after_one = record {
    sets = between.sets;
    services = between.services;
    groups = between.groups;
    there = placed_there;
    same = placed_same;
  }

module _ (v w : Store) (said : IsStation v) where
  one_place : (x : Store) (set number : ℕ) (left : ℕ × ℕ → Bool) → 1 ≤ set → set ≤ v.sets → 1 ≤ number
      → list_any (λ k. number == k) v.services ≡ true
      → IsBetween v w x (λ q. is_at set number q || left q) → Reaches v w x (said_at v set number) left
  unfolding said_at
  one_place x set number left from_1 within no_zero listed between =
      let a : nat_le 1 set ≡ true = le-leb 1 set from_1 in
      let b : nat_le set v.sets ≡ true = le-leb set v.sets within in
      let there : is_some (get v.places (set, number)) ≡ true =
      said.there (set, number) ∙ (λ i. listed i && (a i && b i)) in
      let had = some_of (get v.places (set, number)) there in
      let has = some_of (get x.places (set, number)) (between.there (set, number) ∙ there) in
      let left_there = service_left set number had.0 has.0 (said.each (set, number) had.0 had.1) in
      let puts = puts_all x set number (subst (λ n. n ≤ 8) (sym between.sets) said.few_sets) from_1
      (subst (λ n. set ≤ n) (sym between.sets) within) no_zero
      (subst (λ ks. list_any (λ k. number == k) ks ≡ true) (sym between.services) listed) has.0 has.1
      (service_said set number had.0) had.0 left_there.0 left_there.1 in (
        placed x set number had.0,
        subst (λ es. PutsEach x es (placed x set number had.0))
            (sym (ap (λ o. option_map_or (service_said set number) o []) had.1)) puts,
        after_one v w x set number left had.0 has.0 had.1 has.1 between,
      )

  -- ---- All services of one set.
  one_set : (set : ℕ) → 1 ≤ set → set ≤ v.sets → (ns : List ℕ)
      → AllByRecursion (λ n. (1 ≤ n) × (list_any (λ k. n == k) v.services ≡ true)) ns
      → (x : Store) (left : ℕ × ℕ → Bool) → IsBetween v w x (λ q. left_in set ns q || left q)
      → Reaches v w x (flat_map (said_at v set) ns) left
  one_set set from_1 within [] h x left between = (x, refl, between)
  one_set set from_1 within (n ∷ ns) h x left between =
      let one = one_place x set n (λ q. left_in set ns q || left q) from_1 within h.0.0 h.0.1
      (less v w x _ _ (λ q. or_assoc (is_at set n q) (left_in set ns q) (left q)) between) in
      let more = one_set set from_1 within ns h.1 one.0 left one.2 in
      (more.0, puts_append x one.0 more.0 (said_at v set n) (flat_map (said_at v set) ns) one.1 more.1, more.2)

  listed_services : AllByRecursion (λ n. (1 ≤ n) × (list_any (λ k. n == k) v.services ≡ true)) v.services
  listed_services = all_both (λ n. 1 ≤ n) (λ n. list_any (λ k. n == k) v.services ≡ true) v.services
      (all_more (λ n. (1 ≤ n) × (n < 0x100)) (λ n. 1 ≤ n) (λ n h. h.0) v.services said.numbers)
      (all_listed v.services)

  -- ---- All sets.
  all_sets : (ks : List ℕ) → AllByRecursion (λ k. (1 ≤ k) × (k < 1 + v.sets)) ks → (x : Store)
      → IsBetween v w x (λ q. list_any (λ k. left_in k v.services q) ks)
      → Reaches v w x (flat_map (set_said v) ks) (λ q. false)
  all_sets [] h x between = (x, refl, between)
  all_sets (k ∷ ks) h x between =
      let high = h.0.1 in
      let one = one_set k h.0.0 (omega arith) v.services listed_services x
      (λ q. list_any (λ k. left_in k v.services q) ks) between in
      let more = all_sets ks h.1 one.0 one.2 in
      (more.0, puts_append x one.0 more.0 (set_said v k) (flat_map (set_said v) ks) one.1 more.1, more.2)

  -- ---- Before anything is said.
  place_is_left : (q : ℕ × ℕ) → is_place v q ≡ true
      → list_any (λ k. left_in k v.services q) (set_numbers v.sets) ≡ true
  place_is_left q h =
      let parts = both_true (list_any (λ n. q.1 == n) v.services) (nat_le 1 q.0 && nat_le q.0 v.sets) h in
      let range = both_true (nat_le 1 q.0) (nat_le q.0 v.sets) parts.1 in
      let low = leb-true 1 q.0 range.0 in
      let high = leb-true q.0 v.sets range.1 in
      in_count (λ k. left_in k v.services q) v.sets 1 q.0 low (omega arith)
      ((λ i. list_any (λ n. eq-eqb q.0 q.0 refl i && nat_eq_equiv.symm n q.1 i) v.services) ∙ parts.0)
    where
      both_true : (a b : Bool) → (a && b) ≡ true → (a ≡ true) × (b ≡ true)
      both_true true b h = (refl, h)
      both_true false b h = absurd (false≢true h)

  at_first : IsStation w → w.sets ≡ v.sets → w.services ≡ v.services
      → IsBetween v w w (λ q. list_any (λ k. left_in k v.services q) (set_numbers v.sets))
  at_first held sets services = record {
    sets = sets;
    services = services;
    groups = refl;
    there = there;
    same = λ q done. same q done (is_place v q) refl;
  }
    where
      there : (q : ℕ × ℕ) → is_some (get w.places q) ≡ is_some (get v.places q)
      there q = held.there q
          ∙ (λ i. list_any (λ n. q.1 == n) (services i) && (nat_le 1 q.0 && nat_le q.0 (sets i)))
          ∙ sym (said.there q)

      same : (q : ℕ × ℕ) → list_any (λ k. left_in k v.services q) (set_numbers v.sets) ≡ false
          → (b : Bool) → is_place v q ≡ b → get w.places q ≡ get v.places q
      same q done true e = absurd (false≢true (sym done ∙ place_is_left q e))
      same q done false e = none_of (get w.places q) (there q ∙ said.there q ∙ e)
          ∙ sym (none_of (get v.places q) (said.there q ∙ e))

  pub services_told : IsStation w → w.sets ≡ v.sets → w.services ≡ v.services
      → Reaches v w w (flat_map (set_said v) (set_numbers v.sets)) (λ q. false)
  services_told held sets services = all_sets (set_numbers v.sets) (counted v.sets 1) w (at_first held sets services)
