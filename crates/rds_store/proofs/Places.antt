-- The finite map that the services in each set stand for.
use Rattle.std.proofs.Common.{◌≡◌, ℕ, suc, ◌+◌, ◌-◌, ◌<◌, ◌≤◌, Bool, true, false, cond, ◌&&◌, ◌||◌, eqb, List, [], ◌∷◌}
use Rattle.std.proofs.Common.{◌++◌, length, map, Option, Some, None, refl, sym, ap, subst, ◌∙◌, slice_get, nat_lt}
use Rattle.std.proofs.Common.{nat_le, ◌==◌, arith, ◌⊎◌, inl, inr, is_some, if◌then◌else◌}
use Rattle.std.proofs.lemmas.Bool.Decides.{nat_tests}
use Rattle.std.proofs.lemmas.Bool.{false≢true, cases_order, cases_lt, lt-ltb, le-ltb, le-leb, lt-leb, eq-eqb, ne_eqb}
use Rattle.std.proofs.lemmas.Bool.{eqb-true}
use Rattle.std.proofs.lemmas.List.{map-append}
use Rattle.std.proofs.lemmas.Option.{slice_get_past, slice_get-get_or}
use Rattle.std.specs.Map.{lookup, set_value, keys_of}
use Rattle.std.proofs.lemmas.Cmp.{on_total, then_total, nat_cmp_total}
use Rattle.std.proofs.lemmas.Map.Lookups.{CmpEqualImpliesEq, exact_pairs, exact_unsigned}
use Rattle.std.specs.Cmp.{IsTotalOrder, nat_eq_equiv}
use Rattle.std.specs.Ordering.{nat_cmp, eq_by_cmp, is_eq, ordering_then}
use Rattle.std.specs.Option.{option_or, option_map, option_and_then, option_map_or}
use Rattle.std.specs.List.{AllByRecursion, IsDistinct, list_any}
use Rattle.std.specs.declared.cmp.Ordering.{Ordering}
use Rattle.std.specs.declared.cmp.Ordering.TheVariants.{Less, Equal, Greater}
use Rattle.std.specs.FinMap.{find, get, entries, from_entries, get-from_entries, get-entries, same_map}
use Rattle.rds_store.specs.declared.group.Group.{Group}
use Rattle.rds_store.specs.Value.{ServiceData, Data, place_cmp}
use Rattle.rds_store.specs.Names.{service_of}
use Rattle.rds_store.specs.Content.{opening_service}
use Rattle.rds_store.specs.Refusals.{is_full, count_up}
use Rattle.rds_store.specs.Put.{change_where}
use Rattle.rds_store.specs.Kept.{places_of, all_places, changed_sets, changed_service, any_set_full, at_service, in_set}
use Rattle.rds_store.specs.Kept.{IsKept}

-- ---- The order of places.
pub place_total : IsTotalOrder place_cmp
place_total = then_total (on_total (λ (p : ℕ × ℕ). p.0) nat_cmp_total) (on_total (λ (p : ℕ × ℕ). p.1) nat_cmp_total)

pub place_exact : CmpEqualImpliesEq place_cmp
place_exact = exact_pairs nat_cmp nat_cmp exact_unsigned exact_unsigned

number_tied : (x y : ℕ) → is_eq (nat_cmp x y) ≡ eqb x y
number_tied x y = grind (arith, nat_tests)

then_tied : (a b : Ordering) → is_eq (ordering_then a b) ≡ (is_eq a && is_eq b)
then_tied Less b = refl
then_tied Equal b = refl
then_tied Greater b = refl

pub tied : (s p n q : ℕ) → eq_by_cmp place_cmp (s, p) (n, q) ≡ (eqb s n && eqb p q)
tied s p n q = then_tied (nat_cmp s n) (nat_cmp p q) ∙ (λ i. number_tied s n i && number_tied p q i)

-- ---- What is found in entries.
or_cond : {A : Type 0} (b : Bool) (x : Option A) (o p : Option A)
    → cond b x (option_or o p) ≡ option_or (cond b x o) (cond b x p)
or_cond true None o p = refl
or_cond true (Some x) o p = refl
or_cond false x o p = refl

cond_some_or : {A : Type 0} (b : Bool) (x : A) (o p : Option A)
    → cond b (Some x) (option_or o p) ≡ option_or (cond b (Some x) o) p
cond_some_or true x o p = refl
cond_some_or false x o p = refl

pub find-append : (q : ℕ × ℕ) (xs ys : List ((ℕ × ℕ) × ServiceData))
    → find place_cmp q (xs ++ ys) ≡ option_or (find place_cmp q xs) (find place_cmp q ys)
find-append q [] ys = refl
find-append q (x ∷ xs) ys = ap (cond (eq_by_cmp place_cmp q x.0) (Some x.1)) (find-append q xs ys)
    ∙ cond_some_or (eq_by_cmp place_cmp q x.0) x.1 _ _

-- ---- A change of the places that pass a test.
abbrev pub changed : (ℕ × ℕ → Bool) → (ServiceData → ServiceData) → List ((ℕ × ℕ) × ServiceData)
    → List ((ℕ × ℕ) × ServiceData)
changed test change es = map (λ e. (e.0, (if test e.0 then change e.1 else e.1))) es

found_there : (b : Bool) (test : ℕ × ℕ → Bool) (change : ServiceData → ServiceData) (q k : ℕ × ℕ) (x : ServiceData)
    (o : Option ServiceData)
    → (b ≡ true → q ≡ k)
    → cond b (Some (if test k then change x else x)) (option_map (λ y. if test q then change y else y) o)
    ≡ option_map (λ y. if test q then change y else y) (cond b (Some x) o)
found_there true test change q k x o same = ap (λ r. Some (if test r then change x else x)) (sym (same refl))
found_there false test change q k x o same = refl

equal_from : (o : Ordering) → is_eq o ≡ true → o ≡ Equal
equal_from Less e = absurd (false≢true e)
equal_from Equal e = refl
equal_from Greater e = absurd (false≢true e)

pub find-changed : (test : ℕ × ℕ → Bool) (change : ServiceData → ServiceData) (q : ℕ × ℕ)
    (es : List ((ℕ × ℕ) × ServiceData))
    → find place_cmp q (changed test change es) ≡ option_map (λ y. if test q then change y else y) (find place_cmp q es)
find-changed test change q [] = refl
find-changed test change q (e ∷ es) =
    ap (cond (eq_by_cmp place_cmp q e.0) (Some (if test e.0 then change e.1 else e.1))) (find-changed test change q es)
    ∙ found_there (eq_by_cmp place_cmp q e.0) test change q e.0 e.1 (find place_cmp q es)
    (λ b. place_exact q e.0 (equal_from (place_cmp q e.0) b))

-- a change of the map is one of any entries that make it
pub change_where-from_entries : (test : ℕ × ℕ → Bool) (change : ServiceData → ServiceData)
    (es : List ((ℕ × ℕ) × ServiceData))
    → change_where test change (from_entries es) ≡ from_entries (changed test change es)
change_where-from_entries test change es = same_map place_total place_exact _ _ (λ q.
    get-from_entries place_total (changed test change (entries (from_entries es))) q
    ∙ find-changed test change q (entries (from_entries es))
    ∙ ap (option_map (λ y. if test q then change y else y))
    (sym (get-entries (from_entries es) q) ∙ get-from_entries place_total es q)
    ∙ sym (get-from_entries place_total (changed test change es) q ∙ find-changed test change q es))

-- ---- A change of one service.
and_true : (b : Bool) → (b && true) ≡ b
and_true true = refl
and_true false = refl

and_false : (b : Bool) → (b && false) ≡ false
and_false true = refl
and_false false = refl

module _ (t : ℕ → Bool) (p : ℕ) (change : ServiceData → ServiceData) where
  named_service : (n q : ℕ) (xs : List ServiceData) → eqb p q ≡ true
      → changed (at_service t p) change (places_of n q xs) ≡ places_of n q (changed_sets n t change xs)
  named_service n q [] e = refl
  named_service n q (x ∷ xs) e = λ i.
      ((n, q), (if (ap (λ b. t n && b) e ∙ and_true (t n)) i then change x else x)) ∷ named_service (n + 1) q xs e i

  other_service : (n q : ℕ) (xs : List ServiceData) → eqb p q ≡ false
      → changed (at_service t p) change (places_of n q xs) ≡ places_of n q xs
  other_service n q [] e = refl
  other_service n q (x ∷ xs) e = λ i.
      ((n, q), (if (ap (λ b. t n && b) e ∙ and_false (t n)) i then change x else x)) ∷ other_service (n + 1) q xs e i

  changed-append : (xs ys : List ((ℕ × ℕ) × ServiceData))
      → changed (at_service t p) change (xs ++ ys) ≡ changed (at_service t p) change xs
      ++ changed (at_service t p) change ys
  changed-append xs ys = map-append _ xs ys

  pub other_services : (es : List (ℕ × List ServiceData)) → lookup (eqb p) es ≡ None
      → changed (at_service t p) change (all_places es) ≡ all_places es
  other_services [] h = refl
  other_services (e ∷ es) h = by (eqb p e.0) refl (λ n. other_services es n)
    where
      by : (b : Bool) → eqb p e.0 ≡ b → (lookup (eqb p) es ≡ None
          → changed (at_service t p) change (all_places es) ≡ all_places es)
          → changed (at_service t p) change (all_places (e ∷ es)) ≡ all_places (e ∷ es)
      by true is more = absurd (some_not_none e.1 (ap (λ b. cond b (Some e.1) (lookup (eqb p) es)) (sym is) ∙ h))
        where
          some_not_none : (held : List ServiceData) → Some held ≡ None → ⊥
          some_not_none held e = cc
      by false is more = changed-append (places_of 1 e.0 e.1) (all_places es)
          ∙ (λ i. other_service 1 e.0 e.1 is i ++ more (ap (λ b. cond b (Some e.1) (lookup (eqb p) es)) (sym is) ∙ h) i)

  not_among : (es : List (ℕ × List ServiceData)) → AllByRecursion (λ y. eqb p y ≡ false) (keys_of es)
      → lookup (eqb p) es ≡ None
  not_among [] h = refl
  not_among (e ∷ es) h = ap (λ b. cond b (Some e.1) (lookup (eqb p) es)) h.0 ∙ not_among es h.1

  pub one_service : (es : List (ℕ × List ServiceData)) → IsDistinct eqb (keys_of es)
      → changed (at_service t p) change (all_places es) ≡ all_places (changed_service p t change es)
  unfolding IsDistinct
  one_service [] d = refl
  one_service (e ∷ es) d = by (eqb p e.0) refl (one_service es d.1)
    where
      by : (b : Bool) → eqb p e.0 ≡ b
          → (changed (at_service t p) change (all_places es) ≡ all_places (changed_service p t change es))
          → changed (at_service t p) change (all_places (e ∷ es))
          ≡ all_places (if b then (e.0, changed_sets 1 t change e.1) ∷ es else e ∷ changed_service p t change es)
      by true is more =
          let none : lookup (eqb p) es ≡ None = not_among es
          (subst (λ k. AllByRecursion (λ y. eqb k y ≡ false) (keys_of es)) (sym (eqb-true p e.0 is)) d.0) in
          changed-append (places_of 1 e.0 e.1) (all_places es)
          ∙ (λ i. named_service 1 e.0 e.1 is i ++ other_services es none i)
      by false is more = changed-append (places_of 1 e.0 e.1) (all_places es)
          ∙ (λ i. other_service 1 e.0 e.1 is i ++ more i)

  -- what a look-up and a write of the service come to
  pub written_service : (es : List (ℕ × List ServiceData)) (held : List ServiceData) → Some held ≡ lookup (eqb p) es
      → set_value (eqb p) es (changed_sets 1 t change held) ≡ changed_service p t change es
  written_service [] held h = refl
  written_service (e ∷ es) held h = by (eqb p e.0) h (written_service es held)
    where
      by : (b : Bool) → Some held ≡ cond b (Some e.1) (lookup (eqb p) es)
          → (Some held ≡ lookup (eqb p) es → set_value (eqb p) es (changed_sets 1 t change held)
          ≡ changed_service p t change es)
          → cond b ((e.0, changed_sets 1 t change held) ∷ es) (e ∷ set_value (eqb p) es (changed_sets 1 t change held))
          ≡ (if b then (e.0, changed_sets 1 t change e.1) ∷ es else e ∷ changed_service p t change es)
      by true k more = let same : held ≡ e.1 = cc in ap (λ r. (e.0, changed_sets 1 t change r) ∷ es) same
      by false k more = ap (λ rest. e ∷ rest) (more k)

  pub no_service : (es : List (ℕ × List ServiceData)) → None ≡ lookup (eqb p) es → changed_service p t change es ≡ es
  no_service [] h = refl
  no_service (e ∷ es) h = by (eqb p e.0) h (no_service es)
    where
      by : (b : Bool) → None ≡ cond b (Some e.1) (lookup (eqb p) es)
          → (None ≡ lookup (eqb p) es → changed_service p t change es ≡ es)
          → (if b then (e.0, changed_sets 1 t change e.1) ∷ es else e ∷ changed_service p t change es) ≡ e ∷ es
      by true k more = none_some k
        where
          none_some : None ≡ Some e.1 → (e.0, changed_sets 1 t change e.1) ∷ es ≡ e ∷ es
          none_some k = cc
      by false k more = ap (λ rest. e ∷ rest) (more k)

pub length-changed_sets : (n : ℕ) (t : ℕ → Bool) (change : ServiceData → ServiceData) (xs : List ServiceData)
    → length (changed_sets n t change xs) ≡ length xs
length-changed_sets n t change [] = refl
length-changed_sets n t change (x ∷ xs) = ap suc (length-changed_sets (n + 1) t change xs)

pub lengths-changed_service : (sets p : ℕ) (t : ℕ → Bool) (change : ServiceData → ServiceData)
    (es : List (ℕ × List ServiceData))
    → AllByRecursion (λ e. length e.1 ≡ sets) es → AllByRecursion (λ e. length e.1 ≡ sets)
    (changed_service p t change es)
lengths-changed_service sets p t change [] h = h
lengths-changed_service sets p t change (e ∷ es) h =
    elim (eqb p e.0) as (λ b. AllByRecursion (λ e. length e.1 ≡ sets)
    (if b then (e.0, changed_sets 1 t change e.1) ∷ es else e ∷ changed_service p t change es)) [
      | true ↦ (length-changed_sets 1 t change e.1 ∙ h.0, h.1)
      | false ↦ (h.0, lengths-changed_service sets p t change es h.1)
    ]

pub keys-changed_service : (p : ℕ) (t : ℕ → Bool) (change : ServiceData → ServiceData)
    (es : List (ℕ × List ServiceData)) → keys_of (changed_service p t change es) ≡ keys_of es
keys-changed_service p t change [] = refl
keys-changed_service p t change (e ∷ es) =
    elim (eqb p e.0) as (λ b. keys_of (if b then (e.0, changed_sets 1 t change e.1) ∷ es else e
    ∷ changed_service p t change es) ≡ e.0 ∷ keys_of es) [
      | true ↦ refl
      | false ↦ ap (λ ks. e.0 ∷ ks) (keys-changed_service p t change es)
    ]

pub some-changed_service : (p : ℕ) (t : ℕ → Bool) (change : ServiceData → ServiceData)
    (es : List (ℕ × List ServiceData)) → 0 < length es → 0 < length (changed_service p t change es)
some-changed_service p t change [] h = h
some-changed_service p t change (e ∷ es) h =
    elim (eqb p e.0) as (λ b. 0 < length (if b then (e.0, changed_sets 1 t change e.1) ∷ es else e
    ∷ changed_service p t change es)) [
      | true ↦ omega arith
      | false ↦ omega arith
    ]

-- ---- What stands at a place.
pub in_set_more : (n s : ℕ) (x : ServiceData) (xs : List ServiceData)
    → cond (eqb s n) (Some x) (in_set (n + 1) xs s) ≡ in_set n (x ∷ xs) s
in_set_more n s x xs = by (cases_order s n)
  where
    by : (s ≡ n) ⊎ ((s < n) ⊎ (n < s)) → cond (eqb s n) (Some x) (in_set (n + 1) xs s) ≡ in_set n (x ∷ xs) s
    by (inl e) =
        let a : eqb s n ≡ true = eq-eqb s n e in
        let b : nat_lt s n ≡ false = le-ltb s n (omega arith) in
        let c : s - n ≡ 0 = omega arith in
        rw (a, b, c) refl
    by (inr (inl h)) =
        let a : eqb s n ≡ false = ne_eqb s n (λ e. omega arith) in
        let b : nat_lt s n ≡ true = lt-ltb s n h in
        let c : nat_lt s (n + 1) ≡ true = lt-ltb s (n + 1) (omega arith) in
        rw (a, b, c) refl
    by (inr (inr h)) =
        let a : eqb s n ≡ false = ne_eqb s n (λ e. omega arith) in
        let b : nat_lt s n ≡ false = le-ltb s n (omega arith) in
        let c : nat_lt s (n + 1) ≡ false = le-ltb s (n + 1) (omega arith) in
        let d : s - n ≡ suc (s - (n + 1)) = omega arith in
        rw (a, b, c, d) refl

cond_same : {A : Type 0} (b : Bool) (o : A) → cond b o o ≡ o
cond_same true o = refl
cond_same false o = refl

pub if_none : {A : Type 0} (b : Bool) (o : Option A) → o ≡ None → (if b then None else o) ≡ None
if_none true o e = refl
if_none false o e = e

find-places_of : (s p n q : ℕ) (xs : List ServiceData)
    → find place_cmp (s, p) (places_of n q xs) ≡ cond (eqb p q) (in_set n xs s) None
find-places_of s p n q [] = sym (ap (λ o. cond (eqb p q) o None)
    (if_none (nat_lt s n) (slice_get [] (s - n)) (slice_get_past [] (s - n) (omega arith))) ∙ cond_same (eqb p q) None)
find-places_of s p n q (x ∷ xs) =
    ap (λ b. cond b (Some x) (find place_cmp (s, p) (places_of (n + 1) q xs))) (tied s p n q)
    ∙ ap (cond (eqb s n && eqb p q) (Some x)) (find-places_of s p (n + 1) q xs)
    ∙ by (eqb p q)
  where
    by : (b : Bool) → cond (eqb s n && b) (Some x) (cond b (in_set (n + 1) xs s) None)
        ≡ cond b (in_set n (x ∷ xs) s) None
    by true = ap (λ c. cond c (Some x) (in_set (n + 1) xs s)) (and_true (eqb s n)) ∙ in_set_more n s x xs
    by false = ap (λ c. cond c (Some x) None) (and_false (eqb s n))

or_some : {A : Type 0} (o p : Option A) → is_some o ≡ true → option_or o p ≡ o
or_some None p e = absurd (false≢true e)
or_some (Some x) p e = refl

some_within : (xs : List ServiceData) (k : ℕ) → k < length xs → is_some (slice_get xs k) ≡ true
some_within xs k h = ap is_some (slice_get-get_or xs k opening_service h)

module _ (sets s : ℕ) where
  abbrev NoneThere : Type 0
  NoneThere = (held : List ServiceData) → length held ≡ sets → in_set 1 held s ≡ None

  abbrev SomeThere : Type 0
  SomeThere = (held : List ServiceData) → length held ≡ sets → is_some (in_set 1 held s) ≡ true

  in_row_cases : NoneThere ⊎ SomeThere
  in_row_cases = by (cases_lt s 1) (cases_lt (s - 1) sets)
    where
      by : (s < 1) ⊎ (1 ≤ s) → (s - 1 < sets) ⊎ (sets ≤ s - 1) → NoneThere ⊎ SomeThere
      by (inl h) k = inl (λ held l. let a : nat_lt s 1 ≡ true = lt-ltb s 1 h in rw a refl)
      by (inr h) (inl k) = inr (λ held l. let a : nat_lt s 1 ≡ false = le-ltb s 1 h in
          rw a (some_within held (s - 1) (omega arith)))
      by (inr h) (inr k) = inl (λ held l. let a : nat_lt s 1 ≡ false = le-ltb s 1 h in
          rw a (slice_get_past held (s - 1) (omega arith)))

  find_none : (p : ℕ) (es : List (ℕ × List ServiceData)) → NoneThere → AllByRecursion (λ e. length e.1 ≡ sets) es
      → find place_cmp (s, p) (all_places es) ≡ None
  find_none p [] none h = refl
  find_none p (e ∷ es) none h =
      find-append (s, p) (places_of 1 e.0 e.1) (all_places es)
      ∙ ap (λ o. option_or o (find place_cmp (s, p) (all_places es)))
      (find-places_of s p 1 e.0 e.1 ∙ ap (λ o. cond (eqb p e.0) o None) (none e.1 h.0) ∙ cond_same (eqb p e.0) None)
      ∙ find_none p es none h.1

  pub find-placed : (p : ℕ) (es : List (ℕ × List ServiceData)) → AllByRecursion (λ e. length e.1 ≡ sets) es
      → find place_cmp (s, p) (all_places es) ≡ option_and_then (λ held. in_set 1 held s) (lookup (eqb p) es)
  find-placed p [] h = refl
  find-placed p (e ∷ es) h =
      find-append (s, p) (places_of 1 e.0 e.1) (all_places es)
      ∙ ap (λ o. option_or o (find place_cmp (s, p) (all_places es))) (find-places_of s p 1 e.0 e.1)
      ∙ by (eqb p e.0) in_row_cases (find-placed p es h.1)
    where
      by : (b : Bool) → NoneThere ⊎ SomeThere → find place_cmp (s, p) (all_places es)
          ≡ option_and_then (λ held. in_set 1 held s) (lookup (eqb p) es)
          → option_or (cond b (in_set 1 e.1 s) None) (find place_cmp (s, p) (all_places es))
          ≡ option_and_then (λ held. in_set 1 held s) (cond b (Some e.1) (lookup (eqb p) es))
      by false c more = more
      by true (inl none) more = ap (λ o. option_or o (find place_cmp (s, p) (all_places es))) (none e.1 h.0)
          ∙ find_none p es none h.1 ∙ sym (none e.1 h.0)
      by true (inr some) more = or_some (in_set 1 e.1 s) (find place_cmp (s, p) (all_places es)) (some e.1 h.0)

  -- what the map has at a place
  pub get-all_places : (p : ℕ) (es : List (ℕ × List ServiceData)) → AllByRecursion (λ e. length e.1 ≡ sets) es
      → get (from_entries {R = place_cmp} (all_places es)) (s, p)
      ≡ option_and_then (λ held. in_set 1 held s) (lookup (eqb p) es)
  get-all_places p es h = get-from_entries place_total (all_places es) (s, p) ∙ find-placed p es h

-- ---- A full set.
pub any_full : (t : ℕ → Bool) (g : ℕ → Option ServiceData) (n : ℕ) (xs : List ServiceData)
    → ((k : ℕ) → k < length xs → g (n + k) ≡ slice_get xs k)
    → list_any (λ s. t s && option_map_or is_full (g s) false) (count_up (length xs) n) ≡ any_set_full n t xs
any_full t g n [] h = refl
any_full t g n (x ∷ xs) h =
    let first : g n ≡ Some x = subst (λ m. g m ≡ Some x) (omega arith) (h 0 (omega arith)) in
    let rest : (k : ℕ) → k < length xs → g ((n + 1) + k) ≡ slice_get xs k =
    λ k l. subst (λ m. g m ≡ slice_get xs k) (omega arith) (h (suc k) (omega arith)) in
    λ i. (t n && option_map_or is_full (first i) false) || any_full t g (n + 1) xs rest i

length_found : (sets p : ℕ) (es : List (ℕ × List ServiceData)) (held : List ServiceData)
    → AllByRecursion (λ e. length e.1 ≡ sets) es → lookup (eqb p) es ≡ Some held → length held ≡ sets
length_found sets p [] held all h = none_some h
  where
    none_some : None ≡ Some held → length held ≡ sets
    none_some e = cc
length_found sets p (e ∷ es) held all h = by (eqb p e.0) h (length_found sets p es held all.1)
  where
    by : (b : Bool) → cond b (Some e.1) (lookup (eqb p) es) ≡ Some held
        → (lookup (eqb p) es ≡ Some held → length held ≡ sets) → length held ≡ sets
    by true k more = let same : e.1 ≡ held = cc in ap length (sym same) ∙ all.0
    by false k more = more k

in_set_at : (held : List ServiceData) (k : ℕ) → in_set 1 held (1 + k) ≡ slice_get held k
in_set_at held k =
    let a : nat_lt (1 + k) 1 ≡ false = le-ltb (1 + k) 1 (omega arith) in
    let b : (1 + k) - 1 ≡ k = omega arith in
    rw (a, b) refl

module _ (t : ℕ → Bool) (sets p : ℕ) (es : List (ℕ × List ServiceData))
    (all : AllByRecursion (λ e. length e.1 ≡ sets) es) where
  -- what a look-up of the service says of the sets
  pub full_set : (held : List ServiceData) → Some held ≡ lookup (eqb p) es
      → list_any (λ s. t s && option_map_or is_full (get (from_entries {R = place_cmp} (all_places es)) (s, p)) false)
      (count_up sets 1) ≡ any_set_full 1 t held
  full_set held h =
      ap (λ n. list_any (λ s. t s && option_map_or is_full (get (from_entries {R = place_cmp} (all_places es)) (s, p))
      false) (count_up n 1)) (sym (length_found sets p es held all (sym h)))
      ∙ any_full t (λ s. get (from_entries {R = place_cmp} (all_places es)) (s, p)) 1 held
      (λ k l. get-all_places sets (1 + k) p es all ∙ ap (option_and_then (λ r. in_set 1 r (1 + k))) (sym h)
      ∙ in_set_at held k)

-- a key of a map is one that a look-up finds
pub listed : (p : ℕ) (es : List (ℕ × List ServiceData))
    → is_some (lookup (eqb p) es) ≡ list_any (λ k. eqb p k) (keys_of es)
listed p [] = refl
listed p (e ∷ es) = by (eqb p e.0) (listed p es)
  where
    by : (b : Bool) → is_some (lookup (eqb p) es) ≡ list_any (λ k. eqb p k) (keys_of es)
        → is_some (cond b (Some e.1) (lookup (eqb p) es)) ≡ (b || list_any (λ k. eqb p k) (keys_of es))
    by true h = refl
    by false h = h

pub listed_service : (p : ℕ) (es : List (ℕ × List ServiceData)) → (p ≡ 0 → ⊥) → is_some (lookup (eqb p) es) ≡ true
    → Some p ≡ service_of (keys_of es) p
listed_service p es apart there =
    let a : eqb p 0 ≡ false = ne_eqb p 0 apart in
    let b : list_any (λ k. eqb p k) (keys_of es) ≡ true = sym (listed p es) ∙ there in
    rw (a, b) refl

pub not_listed : (p : ℕ) (es : List (ℕ × List ServiceData)) → (p ≡ 0 → ⊥) → is_some (lookup (eqb p) es) ≡ false
    → None ≡ service_of (keys_of es) p
not_listed p es apart there =
    let a : eqb p 0 ≡ false = ne_eqb p 0 apart in
    let b : list_any (λ k. eqb p k) (keys_of es) ≡ false = sym (listed p es) ∙ there in
    rw (a, b) refl

pub kept_changed : (sets current p : ℕ) (t : ℕ → Bool) (change : ServiceData → ServiceData)
    (es : List (ℕ × List ServiceData)) (groups : List Group)
    → IsKept sets current es groups → IsKept sets current (changed_service p t change es) groups
kept_changed sets current p t change es groups h = record {
  some_set = h.some_set;
  few_sets = h.few_sets;
  current_from_1 = h.current_from_1;
  current_there = h.current_there;
  few_groups = h.few_groups;
  groups_in_range = h.groups_in_range;
  some_service = some-changed_service p t change es h.some_service;
  few_services = subst (λ keys. length keys ≤ 8) (sym (keys-changed_service p t change es)) h.few_services;
  all_sets = lengths-changed_service sets p t change es h.all_sets;
  no_zero = ap (list_any (λ s. s == 0x00)) (keys-changed_service p t change es) ∙ h.no_zero;
}

-- the map of the changed services is the changed map
pub places_changed : (p : ℕ) (t : ℕ → Bool) (change : ServiceData → ServiceData) (es : List (ℕ × List ServiceData))
    → IsDistinct eqb (keys_of es)
    → from_entries {R = place_cmp} (all_places (changed_service p t change es))
    ≡ change_where (at_service t p) change (from_entries (all_places es))
places_changed p t change es d = ap (λ l. from_entries {R = place_cmp} l) (sym (one_service t p change es d))
    ∙ sym (change_where-from_entries (at_service t p) change (all_places es))

-- what a change leaves at a place
pub get-change_where : (test : ℕ × ℕ → Bool) (change : ServiceData → ServiceData) (m : Data) (q : ℕ × ℕ)
    → get (change_where test change m) q ≡ option_map (λ y. if test q then change y else y) (get m q)
get-change_where test change m q =
    get-from_entries place_total (changed test change (entries m)) q
    ∙ find-changed test change q (entries m)
    ∙ ap (option_map (λ y. if test q then change y else y)) (sym (get-entries m q))

-- two maps that answer alike at each place are one
pub same_places : (m n : Data) → ((q : ℕ × ℕ) → get m q ≡ get n q) → m ≡ n
same_places = same_map place_total place_exact

some_in_set : (sets s : ℕ) (held : List ServiceData) → length held ≡ sets
    → is_some (in_set 1 held s) ≡ (nat_le 1 s && nat_le s sets)
some_in_set sets s held l = by (cases_lt s 1) (cases_lt (s - 1) sets)
  where
    by : (s < 1) ⊎ (1 ≤ s) → (s - 1 < sets) ⊎ (sets ≤ s - 1) → is_some (in_set 1 held s) ≡ (nat_le 1 s && nat_le s sets)
    by (inl h) k = let a : nat_lt s 1 ≡ true = lt-ltb s 1 h in let b : nat_le 1 s ≡ false = lt-leb 1 s h in
        rw (a, b) refl
    by (inr h) (inl k) =
        let a : nat_lt s 1 ≡ false = le-ltb s 1 h in let b : nat_le 1 s ≡ true = le-leb 1 s h in
        let c : nat_le s sets ≡ true = le-leb s sets (omega arith) in
        rw (a, b, c) (some_within held (s - 1) (omega arith))
    by (inr h) (inr k) =
        let a : nat_lt s 1 ≡ false = le-ltb s 1 h in let b : nat_le 1 s ≡ true = le-leb 1 s h in
        let c : nat_le s sets ≡ false = lt-leb s sets (omega arith) in
        rw (a, b, c) (ap is_some (slice_get_past held (s - 1) (omega arith)))

-- a place is there exactly where its set is and its service is listed
pub some_at : (sets s p : ℕ) (es : List (ℕ × List ServiceData)) → AllByRecursion (λ e. length e.1 ≡ sets) es
    → is_some (option_and_then (λ held. in_set 1 held s) (lookup (eqb p) es))
    ≡ (list_any (λ k. p == k) (keys_of es) && (nat_le 1 s && nat_le s sets))
some_at sets s p [] all = refl
some_at sets s p (e ∷ es) all = by (eqb p e.0) (some_at sets s p es all.1)
  where
    by : (b : Bool) → is_some (option_and_then (λ held. in_set 1 held s) (lookup (eqb p) es))
        ≡ (list_any (λ k. p == k) (keys_of es) && (nat_le 1 s && nat_le s sets))
        → is_some (option_and_then (λ held. in_set 1 held s) (cond b (Some e.1) (lookup (eqb p) es)))
        ≡ ((b || list_any (λ k. p == k) (keys_of es)) && (nat_le 1 s && nat_le s sets))
    by true more = some_in_set sets s e.1 all.0
    by false more = more

-- no service is 00
pub zero_not_listed : (p : ℕ) (ks : List ℕ) → p ≡ 0x00 → list_any (λ s. s == 0x00) ks ≡ false
    → list_any (λ k. p == k) ks ≡ false
zero_not_listed p [] e h = refl
zero_not_listed p (k ∷ ks) e h =
    let both = neither (k == 0x00) (list_any (λ s. s == 0x00) ks) h in
    λ i. (ap (λ q. q == k) e ∙ nat_eq_equiv.symm 0x00 k ∙ both.0) i || zero_not_listed p ks e both.1 i
  where
    neither : (a b : Bool) → (a || b) ≡ false → (a ≡ false) × (b ≡ false)
    neither true b h = absurd (false≢true (sym h))
    neither false b h = (refl, h)
