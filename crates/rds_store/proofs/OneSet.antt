-- A service in the one set that a number names, and a service at a place of the order.
use Rattle.std.proofs.Common.{◌≡◌, ℕ, zero, suc, ◌+◌, ◌-◌, ◌<◌, ◌≤◌, Bool, true, false, cond, not, ◌&&◌, ◌||◌, eqb}
use Rattle.std.proofs.Common.{List, []}
use Rattle.std.proofs.Common.{◌∷◌, length, Option, Some, None, refl, sym, ap, subst, ◌∙◌, slice_get, nat_lt, ◌==◌}
use Rattle.std.proofs.Common.{arith}
use Rattle.std.proofs.Common.{is_some, get_or, nat_eq, MatchOption}
use Rattle.std.proofs.Common.{slice_index_or, slice_set, IfSome, if◌then◌else◌}
use Rattle.std.proofs.lemmas.Bool.{false≢true, lt-ltb, le-ltb, eq-eqb, ne_eqb, eqb-true}
use Rattle.std.proofs.lemmas.Option.{slice_get_past, slice_get-get_or}
use Rattle.std.specs.Cmp.{nat_eq_equiv}
use Rattle.std.specs.Map.{lookup, set_value, keys_of, values_of}
use Rattle.std.specs.Option.{option_map_or}
use Rattle.std.specs.List.{AllByRecursion, IsDistinct, list_any, position}
use Rattle.std.proofs.lemmas.List.Quantifiers.{position-Some}
use Rattle.rds_store.specs.Names.{service_of}
use Rattle.std.specs.FinMap.{get, from_entries}
use Rattle.indexmap.specs.Layout.{set_value_at}
use Rattle.rds_store.specs.declared.group.Group.{Group}
use Rattle.rds_store.specs.Value.{ServiceData, place_cmp}
use Rattle.rds_store.specs.Refusals.{is_full, count_up}
use Rattle.rds_store.specs.Kept.{all_places, changed_sets, changed_service, any_set_full, in_set, IsKept}
use Rattle.rds_store.proofs.Places.{in_set_more, if_none, written_service, full_set, kept_changed, listed_service}
use Rattle.rds_store.proofs.Places.{not_listed}

-- ---- tests that say the same of every set
pub same_full : (t u : ℕ → Bool) → ((k : ℕ) → t k ≡ u k) → (n : ℕ) (xs : List ServiceData)
    → any_set_full n t xs ≡ any_set_full n u xs
same_full t u same n [] = refl
same_full t u same n (x ∷ xs) = λ i. (same n i && is_full x) || same_full t u same (n + 1) xs i

pub same_changed : (t u : ℕ → Bool) → ((k : ℕ) → t k ≡ u k) → (change : ServiceData → ServiceData) (n : ℕ)
    (xs : List ServiceData) → changed_sets n t change xs ≡ changed_sets n u change xs
same_changed t u same change n [] = refl
same_changed t u same change n (x ∷ xs) = λ i.
    (if same n i then change x else x) ∷ same_changed t u same change (n + 1) xs i

-- ---- the test for one set
module _ (s : ℕ) where
  -- the sets begin behind it
  pub changed_none : (change : ServiceData → ServiceData) (n : ℕ) (xs : List ServiceData) → s < n
      → changed_sets n (λ k. k == s) change xs ≡ xs
  changed_none change n [] h = refl
  changed_none change n (x ∷ xs) h =
      let other : (n == s) ≡ false = ne_eqb n s (λ e. omega arith) in
      λ i. (if other i then change x else x) ∷ changed_none change (n + 1) xs (omega arith) i

  -- they end before it
  pub changed_past : (change : ServiceData → ServiceData) (n : ℕ) (xs : List ServiceData) → n + length xs ≤ s
      → changed_sets n (λ k. k == s) change xs ≡ xs
  changed_past change n [] h = refl
  changed_past change n (x ∷ xs) h =
      let other : (n == s) ≡ false = ne_eqb n s (λ e. omega arith) in
      λ i. (if other i then change x else x) ∷ changed_past change (n + 1) xs (omega arith) i

  -- it is the one at this place of them
  pub changed_one : (change : ServiceData → ServiceData) (n k : ℕ) (xs : List ServiceData) (d : ServiceData)
      → s ≡ n + k → k < length xs
      → slice_set xs k (change (slice_index_or xs k d)) ≡ changed_sets n (λ k. k == s) change xs
  changed_one change n k [] d is h = absurd (omega (arith, h))
  changed_one change n zero (x ∷ xs) d is h =
      let this : (n == s) ≡ true = eq-eqb n s (omega arith) in
      sym (λ i. (if this i then change x else x) ∷ changed_none change (n + 1) xs (omega arith) i)
  changed_one change n (suc k) (x ∷ xs) d is h =
      let other : (n == s) ≡ false = ne_eqb n s (λ e. omega arith) in
      sym (λ i. (if other i then change x else x)
      ∷ sym (changed_one change (n + 1) k xs d (omega arith) (omega (arith, h))) i)

  -- what is full of it
  pub full_in : (n : ℕ) (xs : List ServiceData)
      → any_set_full n (λ k. k == s) xs ≡ option_map_or is_full (in_set n xs s) false
  full_in n [] = sym (ap (λ o. option_map_or is_full o false)
      (if_none (nat_lt s n) (slice_get [] (s - n)) (slice_get_past [] (s - n) (omega arith))))
  full_in n (x ∷ xs) =
      ap (λ b. (n == s && is_full x) || b) (full_in (n + 1) xs)
      ∙ ap (λ e. (e && is_full x) || option_map_or is_full (in_set (n + 1) xs s) false) (nat_eq_equiv.symm n s)
      ∙ by (eqb s n) refl
      ∙ ap (λ o. option_map_or is_full o false) (in_set_more n s x xs)
    where
      or_nothing : (b : Bool) → (b || false) ≡ b
      or_nothing true = refl
      or_nothing false = refl

      by : (b : Bool) → eqb s n ≡ b
          → ((b && is_full x) || option_map_or is_full (in_set (n + 1) xs s) false)
          ≡ option_map_or is_full (cond b (Some x) (in_set (n + 1) xs s)) false
      by true e =
          let here : s ≡ n = eqb-true s n e in
          let before : nat_lt s (n + 1) ≡ true = lt-ltb s (n + 1) (omega arith) in
          ap (λ c. is_full x || option_map_or is_full (if c then None else slice_get xs (s - (n + 1))) false) before
          ∙ or_nothing (is_full x)
      by false e = refl

-- the one at this place of the sets, set 1 first
pub full_one : (s k : ℕ) (xs : List ServiceData) (d : ServiceData) → s ≡ 1 + k → k < length xs
    → any_set_full 1 (λ k. k == s) xs ≡ is_full (slice_index_or xs k d)
full_one s k xs d is h =
    full_in s 1 xs
    ∙ ap (λ o. option_map_or is_full o false)
    (let from : nat_lt s 1 ≡ false = le-ltb s 1 (omega arith) in
    let place : s - 1 ≡ k = omega arith in
    (λ i. if from i then None else slice_get xs (place i)) ∙ slice_get-get_or xs k d h)

-- ---- a place of the order and the number that stands there
abbrev Held : Type 0
Held = List (ℕ × List ServiceData)

no_entry : {A : Type 0} {B : Type 0} (x : A) → None ≡ Some x → B
no_entry x h = cc

apart_at : (ks : List ℕ) (i n k : ℕ) → AllByRecursion (λ y. eqb k y ≡ false) ks → slice_get ks i ≡ Some n
    → eqb n k ≡ false
apart_at [] i n k all at = no_entry n at
apart_at (y ∷ ks) zero n k all at = let same : y ≡ n = cc in nat_eq_equiv.symm n k ∙ ap (eqb k) (sym same) ∙ all.0
apart_at (y ∷ ks) (suc i) n k all at = apart_at ks i n k all.1 at

pub found_at : (es : Held) (i n : ℕ) → IsDistinct eqb (keys_of es) → slice_get (keys_of es) i ≡ Some n
    → lookup (eqb n) es ≡ slice_get (values_of es) i
unfolding IsDistinct
found_at [] i n d at = no_entry n at
found_at (e ∷ es) zero n d at =
    let same : e.0 ≡ n = cc in
    ap (λ b. cond b (Some e.1) (lookup (eqb n) es)) (eq-eqb n e.0 (sym same))
found_at (e ∷ es) (suc i) n d at =
    ap (λ b. cond b (Some e.1) (lookup (eqb n) es)) (apart_at (keys_of es) i n e.0 d.0 at) ∙ found_at es i n d.1 at

pub set_at : (es : Held) (i n : ℕ) (w : List ServiceData) → IsDistinct eqb (keys_of es)
    → slice_get (keys_of es) i ≡ Some n → set_value_at es i w ≡ set_value (eqb n) es w
unfolding IsDistinct
set_at [] i n w d at = no_entry n at
set_at (e ∷ es) zero n w d at =
    let same : e.0 ≡ n = cc in
    sym (ap (λ b. cond b ((e.0, w) ∷ es) (e ∷ set_value (eqb n) es w)) (eq-eqb n e.0 (sym same)))
set_at (e ∷ es) (suc i) n w d at =
    ap (λ r. e ∷ r) (set_at es i n w d.1 at)
    ∙ sym (ap (λ b. cond b ((e.0, w) ∷ es) (e ∷ set_value (eqb n) es w)) (apart_at (keys_of es) i n e.0 d.0 at))

-- a service is written as it was
pub set_as_it_was : (es : Held) (i : ℕ) (w : List ServiceData) → Some w ≡ slice_get (values_of es) i
    → set_value_at es i w ≡ es
set_as_it_was [] i w h = refl
set_as_it_was (e ∷ es) zero w h = let same : w ≡ e.1 = cc in ap (λ r. (e.0, r) ∷ es) same
set_as_it_was (e ∷ es) (suc i) w h = ap (λ r. e ∷ r) (set_as_it_was es i w h)

-- a key and a value stand at the same places
pub both_at : (es : Held) (i n : ℕ) → slice_get (keys_of es) i ≡ Some n
    → (held : List ServiceData) × (slice_get (values_of es) i ≡ Some held)
both_at [] i n at = no_entry n at
both_at (e ∷ es) zero n at = (e.1, refl)
both_at (e ∷ es) (suc i) n at = both_at es i n at

pub key_at : (es : Held) (i : ℕ) (held : List ServiceData) → slice_get (values_of es) i ≡ Some held
    → (n : ℕ) × (slice_get (keys_of es) i ≡ Some n)
key_at [] i held at = no_entry held at
key_at (e ∷ es) zero held at = (e.0, refl)
key_at (e ∷ es) (suc i) held at = key_at es i held at

-- ---- the place that a number of a service names
-- 00 names the first
pub first_named : (p : ℕ) (es : Held) → p ≡ 0 → 0 < length es
    → (n : ℕ) × (service_of (keys_of es) p ≡ Some n) × (slice_get (keys_of es) 0 ≡ Some n)
first_named p [] is some = absurd (omega (arith, some))
first_named p (e ∷ es) is some = (e.0, ap (service_of (e.0 ∷ keys_of es)) is, refl)

-- another names the place where it stands
pub named_place : (p : ℕ) (es : Held) (o : Option ℕ) → (p ≡ 0 → ⊥) → o ≡ position (nat_eq p) (keys_of es)
    → is_some o ≡ is_some (lookup (eqb p) es)
    → MatchOption o (service_of (keys_of es) p ≡ None) (λ i. (n : ℕ) × (service_of (keys_of es) p ≡ Some n)
    × (slice_get (keys_of es) i ≡ Some n))
named_place p es None apart is found = sym (not_listed p es apart (sym found))
named_place p es (Some i) apart is found =
    let there = position-Some (nat_eq p) (keys_of es) i 0 (sym is) in (
      p,
      sym (listed_service p es apart (sym found)),
      slice_get-get_or (keys_of es) i 0 there.0
          ∙ ap (λ n. Some n) (sym (eqb-true p (get_or (keys_of es) i 0) there.1)),
    )

pub if_some : (o : Option ℕ) (P : ℕ → Type 0) → ((n : ℕ) → o ≡ Some n → P n) → IfSome o P
if_some None P h = tt
if_some (Some n) P h = h n refl

-- ---- the service at a place was changed, or had no room
module _ (es new : Held) (i : ℕ) (t : ℕ → Bool) (change : ServiceData → ServiceData) (adding result : Bool)
    (distinct : IsDistinct eqb (keys_of es))
    (room : IfSome (slice_get (values_of es) i) (λ held. result ≡ not (adding && any_set_full 1 t held)))
    (taken : IfSome (slice_get (values_of es) i) (λ held. result ≡ true
    → new ≡ set_value_at es i (changed_sets 1 t change held)))
    (absent : slice_get (values_of es) i ≡ None → result ≡ false)
    (kept : result ≡ false → new ≡ es) where
  pub changed_at : (n : ℕ) → slice_get (keys_of es) i ≡ Some n → result ≡ true
      → new ≡ changed_service n t change es
  changed_at n at done =
      let there = both_at es i n at in
      subst (λ o. IfSome o (λ held. result ≡ true → new ≡ set_value_at es i (changed_sets 1 t change held))) there.1
      taken done
      ∙ set_at es i n (changed_sets 1 t change there.0) distinct at
      ∙ written_service t n change es there.0 (sym (found_at es i n distinct at ∙ there.1))

  pub room_at : (sets n : ℕ) → AllByRecursion (λ e. length e.1 ≡ sets) es → slice_get (keys_of es) i ≡ Some n
      → result ≡ not (adding && list_any
      (λ s. t s && option_map_or is_full (get (from_entries {R = place_cmp} (all_places es)) (s, n)) false)
      (count_up sets 1))
  room_at sets n all at =
      let there = both_at es i n at in
      subst (λ o. IfSome o (λ held. result ≡ not (adding && any_set_full 1 t held))) there.1 room
      ∙ ap (λ b. not (adding && b)) (sym (full_set t sets n es all there.0
      (sym (found_at es i n distinct at ∙ there.1))))

  pub still_kept : (sets current : ℕ) (groups : List Group) → IsKept sets current es groups
      → IsKept sets current new groups
  still_kept sets current groups h = by result refl
    where
      by : (b : Bool) → result ≡ b → IsKept sets current new groups
      by false e = subst (λ r. IsKept sets current r groups) (sym (kept e)) h
      by true e = by_held (slice_get (values_of es) i) refl
        where
          by_held : (o : Option (List ServiceData)) → slice_get (values_of es) i ≡ o
              → IsKept sets current new groups
          by_held None none = absurd (false≢true (sym (absent none) ∙ e))
          by_held (Some held) some =
              let key = key_at es i held some in
              subst (λ r. IsKept sets current r groups) (sym (changed_at key.0 key.1 e))
              (kept_changed sets current key.0 t change es groups h)
