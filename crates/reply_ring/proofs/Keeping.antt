-- What `keep` leaves: the table has the new code, and no longer that of the pair that was dropped.
use Rattle.std.proofs.Common.{◌≡◌, ◌≢◌, ℕ, ◌<◌, ◌≤◌, ◌==◌, List, [], ◌∷◌, length, take, replicate, slice_get, Option}
use Rattle.std.proofs.Common.{Some, None, unwrap_or, IfSome, if◌then◌else◌, inl, inr, refl, sym, ap, subst, ◌∙◌, arith}
use Rattle.std.proofs.Math.ListN.{set, length-set}
use Rattle.std.proofs.lemmas.List.{get_or-set_same, get_or-replicate, take-map, take_all, length-map}
use Rattle.std.proofs.lemmas.Option.{slice_get_within, slice_get_cases}
use Rattle.std.proofs.lemmas.Grind.{common_steps}
use Rattle.uecp_elements.specs.declared.code.Code.{Code}
use Rattle.uecp_elements.specs.declared.code.Code.TheVariants.{Applied}
use Rattle.reply_ring.specs.Ring.{kept_code, keep, IsRing}
use Rattle.reply_ring.specs.Table.{entry, pairs_of, IsKept}
use Rattle.reply_ring.proofs.Kept.{ring-keep, none_left}
use Rattle.reply_ring.proofs.Entries.{pairs_apart, without_oldest}

-- The table has the ring's codes: pairs and entries.
pub record Has (counters : List ℕ) (codes : List (Option Code)) (ring : List (ℕ × Code)) : Type 0 where
  pub pairs : pairs_of counters codes ≡ ring
  pub entries : (counter : ℕ) → counter < 256 → entry codes counter ≡ kept_code ring counter

some_none : (x : ℕ) → Some x ≡ None → ⊥
some_none x h = cc

-- an entry once one is written
written : (codes : List (Option Code)) (k : ℕ) (e : Option Code) (counter : ℕ) → k < length codes
    → entry (set codes k e) counter ≡ (if counter == k then e else entry codes counter)
written codes k e counter within = grind (arith, common_steps)

module _ (counters : List ℕ) (codes : List (Option Code)) (is : IsKept 127 counters codes)
    (size : length codes ≡ 256) where
  few : length counters ≤ 127
  few = omega (
    arith,
    is.ring.at_most,
    length-map {B = ℕ × Code} counters
        (λ counter. (counter, unwrap_or (entry codes counter) Applied)),
  )

  taken : pairs_of (take 126 counters) codes ≡ take 126 (pairs_of counters codes)
  taken = sym (take-map (λ (counter : ℕ). (counter, unwrap_or (entry codes counter) Applied)) 126 counters)

  pub dropped : (oldest : ℕ) → oldest < 256 → slice_get counters 126 ≡ Some oldest
      → Has (take 126 counters) (set codes oldest None) (take 126 (pairs_of counters codes))
  dropped oldest fits p =
      let within : 126 < length counters = slice_get_within counters 126 oldest p in
      let full : length counters ≡ 127 = omega (arith, few) in
      let others : (k : ℕ) → kept_code (pairs_of (take 126 counters) codes) k
      ≡ (if k == oldest then None else kept_code (pairs_of counters codes) k) =
      λ k. without_oldest 126 counters codes oldest k p full is.ring.once in
      let gone : kept_code (pairs_of (take 126 counters) codes) oldest ≡ None =
      grind (arith, common_steps, others oldest) in
      record {
        pairs = pairs_apart (take 126 counters) codes oldest None gone ∙ taken;
        entries = λ k h. grind (arith, common_steps, others k, written codes oldest None k, is.entries k, taken);
      }

  pub none_dropped : slice_get counters 126 ≡ None → Has (take 126 counters) codes (take 126 (pairs_of counters codes))
  none_dropped p =
      let short : length counters ≤ 126 =
      elim (slice_get_cases counters 126).1 [
        | inl some ↦ absurd (some_none some.0 (sym some.2 ∙ p))
        | inr past ↦ past.0
      ] in
      let all : take 126 counters ≡ counters = take_all 126 counters short in
      record {
        pairs = taken;
        entries = λ k h. is.entries k h ∙ ap (λ cs. kept_code (pairs_of cs codes) k) (sym all)
            ∙ ap (λ r. kept_code r k) taken;
      }

pub kept : (counters : List ℕ) (codes : List (Option Code)) (ring : List (ℕ × Code)) (counter : ℕ) (code : Code)
    → Has counters codes ring
    → length codes ≡ 256 → counter < 256 → kept_code ring counter ≡ None
    → Has (counter ∷ counters) (set codes counter (Some code)) ((counter, code) ∷ ring)
kept counters codes ring counter code has size fits fresh = record {
  pairs =
      let first : entry (set codes counter (Some code)) counter ≡ Some code =
      get_or-set_same codes counter (Some code) None (omega arith) in
      let absent : kept_code (pairs_of counters codes) counter ≡ None =
      ap (λ r. kept_code r counter) has.pairs ∙ fresh in
      λ i. (counter, unwrap_or (first i) Applied) ∷ (pairs_apart counters codes counter (Some code) absent ∙ has.pairs)
      i;
  entries = λ k h. grind (arith, common_steps, written codes counter (Some code) k, has.entries k);
}

-- what `keep` leaves of a ring that is kept
pub record Leaves (capacity : ℕ) (counters : List ℕ) (codes : List (Option Code)) (ring : List (ℕ × Code)) : Type
    0 where
  pub kept : IsKept capacity counters codes
  pub pairs : pairs_of counters codes ≡ ring

-- an entry is cleared where its counter was pushed out
abbrev pub cleared : (codes : List (Option Code)) → (oldest : Option ℕ) → List (Option Code)
cleared codes (Some oldest) = set codes oldest None
cleared codes None = codes

has_rest : (counters : List ℕ) (codes : List (Option Code)) → IsKept 127 counters codes → length codes ≡ 256
    → (oldest : Option ℕ) → IfSome oldest (λ o. o < 256)
    → slice_get counters 126 ≡ oldest → Has (take 126 counters) (cleared codes oldest)
    (take 126 (pairs_of counters codes))
has_rest counters codes is size (Some oldest) fits p = dropped counters codes is size oldest fits p
has_rest counters codes is size None fits p = none_dropped counters codes is size p

module _ (counters : List ℕ) (codes : List (Option Code)) (size : length codes ≡ 256) (counter : ℕ) (code : Code)
    (fits : counter < 256) (numbered : counter ≢ 0) (fresh : kept_code (pairs_of counters codes) counter ≡ None) where
  leaves_127 : IsKept 127 counters codes → (oldest : Option ℕ) → IfSome oldest (λ o. o < 256)
      → slice_get counters 126 ≡ oldest
      → Leaves 127 (counter ∷ take 126 counters) (set (cleared codes oldest) counter (Some code))
      (keep (pairs_of counters codes) counter code)
  leaves_127 is oldest small p =
      let still : length (cleared codes oldest) ≡ 256 =
      elim oldest as (λ o. length (cleared codes o) ≡ 256) [
        | Some o ↦ length-set codes o None ∙ size
        | None ↦ size
      ] in
      let has = kept (take 126 counters) (cleared codes oldest) (take 126 (pairs_of counters codes)) counter code
      (has_rest counters codes is size oldest small p) still fits
      (none_left 126 (pairs_of counters codes) counter fresh) in
      record {
        kept = record {
          room = refl;
          ring = subst IsRing (sym has.pairs) (ring-keep (pairs_of counters codes) counter code is.ring numbered fresh);
          entries = λ k h. has.entries k h ∙ ap (λ r. kept_code r k) (sym has.pairs);
        };
        pairs = has.pairs;
      }

  -- in the words of what `push_front` answers and leaves
  pub keep_leaves : (capacity : ℕ) → IsKept capacity counters codes → (oldest : Option ℕ) → IfSome oldest (λ o. o < 256)
      → oldest ≡ slice_get (counter ∷ counters) capacity
      → Leaves capacity (take capacity (counter ∷ counters)) (set (cleared codes oldest) counter (Some code))
      (keep (pairs_of counters codes) counter code)
  keep_leaves capacity is = rw is.room (leaves_so (subst (λ room. IsKept room counters codes) is.room is))
    where
      leaves_so : IsKept 127 counters codes → (oldest : Option ℕ) → IfSome oldest (λ o. o < 256)
          → oldest ≡ slice_get (counter ∷ counters) 127
          → Leaves 127 (take 127 (counter ∷ counters)) (set (cleared codes oldest) counter (Some code))
          (keep (pairs_of counters codes) counter code)
      leaves_so is oldest small p = leaves_127 is oldest small (sym p)

-- a new ring: room for 127, and no counter has a code
pub new_kept : (capacity : ℕ) (counters : List ℕ) → capacity ≡ 127 → counters ≡ []
    → IsKept capacity counters (replicate 256 None)
new_kept capacity counters room none = rw (room, none) (record {
  room = refl;
  ring = record { at_most = omega arith; once = tt; numbered = refl };
  entries = λ k h. get_or-replicate 256 k None None h;
})
