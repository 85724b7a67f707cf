-- The opening store is a station.
use Rattle.std.proofs.Common.{◌≡◌, ℕ, ◌<◌, ◌≤◌, ◌==◌, nat_lt, nat_le, Bool, true, false, ◌&&◌}
use Rattle.std.proofs.Common.{◌||◌, List, [], ◌∷◌, map, Some, None, is_some, refl, sym}
use Rattle.std.proofs.Common.{ap, subst, ◌∙◌, arith, suc, zero, if◌then◌else◌, eqb, replicate}
use Rattle.std.proofs.lemmas.Bool.{false≢true, eq-eqb}
use Rattle.std.specs.List.{list_any, AllByRecursion}
use Rattle.std.specs.FinMap.{get}
use Rattle.uecp_elements.specs.Grammar.{AreBytes}
use Rattle.rds_store.specs.Value.{ServiceData}
use Rattle.rds_store.specs.Value.{place_cmp}
use Rattle.rds_store.specs.Content.{opening_service}
use Rattle.rds_store.specs.Opening.{opening, fault_of}
use Rattle.rds_store.specs.Kept.{IsKept, in_set}
use Rattle.rds_store.proofs.Public.{get-all_places, some_at, all_places-opening, keys-opening, lengths-opening}
use Rattle.rds_store.proofs.Public.{kept_opening}
use Rattle.std.specs.FinMap.{from_entries}
use Rattle.std.specs.Map.{lookup}
use Rattle.std.specs.Option.{option_and_then}
use Rattle.std.proofs.Common.{◌-◌, cond, slice_get}
use Rattle.store_phrases.specs.Station.{IsService, is_place, IsStation}

-- ---- The opening store.
new_service : IsService opening_service
new_service = record {
  pi = omega arith;
  eight = refl;
  name = (
    omega arith,
    (
      omega arith,
      (
        omega arith,
        (
          omega arith,
          (
            omega arith,
            (
              omega arith,
              (
                omega arith,
                (
                  omega arith,
                  tt,
                ),
              ),
            ),
          ),
        ),
      ),
    ),
  );
  pty = omega arith;
  few_texts = omega arith;
  texts = tt;
}

module _ (sets : ℕ) (services : List ℕ) (bytes : AreBytes services) (allowed : fault_of sets services ≡ None) where
  abbrev held : List (ℕ × List ServiceData)
  held = map (λ n. (n, replicate sets opening_service)) services

  kept : IsKept sets 1 held []
  kept = kept_opening sets services allowed

  opened_at : (q : ℕ × ℕ) → get (opening sets services).places q
      ≡ option_and_then (λ r. in_set 1 r q.0) (lookup (eqb q.1) held)
  opened_at q = ap (λ es. get (from_entries {R = place_cmp} es) q) (sym (all_places-opening sets services))
      ∙ get-all_places sets q.0 q.1 held (lengths-opening sets services)

  opened_there : (q : ℕ × ℕ) → is_some (get (opening sets services).places q) ≡ is_place (opening sets services) q
  opened_there q = ap is_some (opened_at q) ∙ some_at sets q.0 q.1 held (lengths-opening sets services)
      ∙ ap (λ ks. list_any (λ k. q.1 == k) ks && (nat_le 1 q.0 && nat_le q.0 sets)) (keys-opening sets services)

  -- every service is new
  new_in : (r : List ServiceData) (k : ℕ) (s : ServiceData) (n : ℕ) → r ≡ replicate n opening_service
      → slice_get r k ≡ Some s → IsService s
  new_in r k s n is at = in_row n k (ap (λ r. slice_get r k) (sym is) ∙ at)
    where
      in_row : (n k : ℕ) → slice_get (replicate n opening_service) k ≡ Some s → IsService s
      in_row zero k h = none_some h
        where
          none_some : slice_get (replicate zero opening_service) k ≡ Some s → IsService s
          none_some h = cc
      in_row (suc n) zero h = let same : opening_service ≡ s = cc in subst IsService same new_service
      in_row (suc n) (suc k) h = in_row n k h

  opened_each : (q : ℕ × ℕ) (s : ServiceData) → get (opening sets services).places q ≡ Some s → IsService s
  opened_each q s h = by services (sym (opened_at q) ∙ h)
    where
      none_some : None ≡ Some s → IsService s
      none_some e = cc

      in_one : (b : Bool) → (if b then None else slice_get (replicate sets opening_service) (q.0 - 1)) ≡ Some s
          → IsService s
      in_one true e = none_some e
      in_one false e = new_in (replicate sets opening_service) (q.0 - 1) s sets refl e

      by : (ns : List ℕ) → option_and_then (λ r. in_set 1 r q.0)
          (lookup (eqb q.1) (map (λ n. (n, replicate sets opening_service)) ns)) ≡ Some s → IsService s
      by [] e = none_some e
      by (n ∷ ns) e = found (eqb q.1 n) e (by ns)
        where
          found : (b : Bool) → option_and_then (λ r. in_set 1 r q.0) (cond b (Some (replicate sets opening_service))
              (lookup (eqb q.1) (map (λ n. (n, replicate sets opening_service)) ns))) ≡ Some s
              → (option_and_then (λ r. in_set 1 r q.0)
              (lookup (eqb q.1) (map (λ n. (n, replicate sets opening_service)) ns)) ≡ Some s → IsService s)
              → IsService s
          found true e more = in_one (nat_lt q.0 1) e
          found false e more = more e

  listed_numbers : (ns : List ℕ) → AreBytes ns → list_any (λ s. s == 0x00) ns ≡ false
      → AllByRecursion (λ n. (1 ≤ n) × (n < 0x100)) ns
  listed_numbers [] b h = tt
  listed_numbers (n ∷ ns) b h = by (n == 0x00) refl h (listed_numbers ns b.1)
    where
      by : (z : Bool) → (n == 0x00) ≡ z → (z || list_any (λ s. s == 0x00) ns) ≡ false
          → (list_any (λ s. s == 0x00) ns ≡ false → AllByRecursion (λ n. (1 ≤ n) × (n < 0x100)) ns)
          → AllByRecursion (λ n. (1 ≤ n) × (n < 0x100)) (n ∷ ns)
      by true e h more = absurd (false≢true (sym h))
      by false e h more =
          let apart : (n ≡ 0 → ⊥) = λ k. false≢true (sym e ∙ eq-eqb n 0x00 k) in
          ((omega arith, b.0), more h)

  pub opened : IsStation (opening sets services)
  opened = record {
    few_sets = kept.few_sets;
    current_from_1 = omega arith;
    current_there = kept.some_set;
    numbers = listed_numbers services bytes
        (ap (list_any (λ s. s == 0x00)) (sym (keys-opening sets services)) ∙ kept.no_zero);
    there = opened_there;
    each = opened_each;
    few_groups = omega arith;
    groups = tt;
  }
