-- A table of codes by counter beside the list of pairs: what a look-up says, and what a pair that is kept or dropped
-- changes.
use Rattle.std.proofs.Common.{◌≡◌, ◌≢◌, ℕ, zero, suc, ◌==◌, List, [], ◌∷◌, length, take, Option, Some, None, IfSome}
use Rattle.std.proofs.Common.{IfNone, Bool, true, false, Contains, All, if◌then◌else◌, slice_get, refl, arith}
use Rattle.std.proofs.Math.ListN.{set}
use Rattle.std.proofs.lemmas.List.Elements.{All-nil, All-cons}
use Rattle.std.proofs.lemmas.Bool.{eqb-true, eqb-false}
use Rattle.std.proofs.lemmas.Grind.{common_steps}
use Rattle.uecp_elements.specs.declared.code.Code.{Code}
use Rattle.reply_ring.specs.Ring.{kept_code, newest, HasEachOnce}
use Rattle.reply_ring.specs.Table.{pairs_of}

held_later : (pair : ℕ × Code) (older : List (ℕ × Code)) (counter : ℕ) (o : Option Code)
    → IfSome o (λ code. Contains older (counter, code))
    → IfSome o (λ code. Contains (pair ∷ older) (counter, code))
held_later pair older counter None h = tt
held_later pair older counter (Some code) h = (suc h.0, omega (arith, h.1), h.2)

-- a code that a ring has for a counter is in it with the counter
pub kept_is_held : (ring : List (ℕ × Code)) (counter : ℕ)
    → IfSome (kept_code ring counter) (λ code. Contains ring (counter, code))
kept_is_held [] counter = tt
kept_is_held (pair ∷ older) counter = by (pair.0 == counter) refl
    (held_later pair older counter (kept_code older counter) (kept_is_held older counter))
  where
    by : (b : Bool) → (pair.0 == counter) ≡ b → IfSome (kept_code older counter)
        (λ code. Contains (pair ∷ older) (counter, code))
        → IfSome (if b then Some pair.1 else kept_code older counter) (λ code. Contains (pair ∷ older) (counter, code))
    by true e more = (0, omega arith, λ i. (eqb-true pair.0 counter e i, pair.1))
    by false e more = more

-- where a ring has none, no pair of it has the counter
pub none_is_held : (ring : List (ℕ × Code)) (counter : ℕ)
    → IfNone (kept_code ring counter) (All {X = ℕ × Code} (λ pair. pair.0 ≢ counter) ring)
none_is_held [] counter = All-nil (λ (pair : ℕ × Code). pair.0 ≢ counter)
none_is_held (pair ∷ older) counter = by (pair.0 == counter) refl (none_is_held older counter)
  where
    by : (b : Bool) → (pair.0 == counter) ≡ b → IfNone (kept_code older counter)
        (All {X = ℕ × Code} (λ pair. pair.0 ≢ counter) older)
        → IfNone (if b then Some pair.1 else kept_code older counter)
        (All {X = ℕ × Code} (λ pair. pair.0 ≢ counter) (pair ∷ older))
    by true e more = tt
    by false e more = elim (kept_code older counter) as (λ o.
        IfNone o (All {X = ℕ × Code} (λ pair. pair.0 ≢ counter) older)
        → IfNone o (All {X = ℕ × Code} (λ pair. pair.0 ≢ counter) (pair ∷ older))) [
          | None ↦ λ all. All-cons (λ (pair : ℕ × Code). pair.0 ≢ counter) pair older (eqb-false pair.0 counter e) all
          | Some code ↦ λ h. h
        ] more

-- the first counter is the newest pair's
pub first_is_newest : (counters : List ℕ) (codes : List (Option Code))
    → slice_get counters 0 ≡ newest (pairs_of counters codes)
first_is_newest [] codes = refl
first_is_newest (c ∷ cs) codes = refl

-- there is a newest pair exactly where there is one
pub newest_none : (ring : List (ℕ × Code)) → (newest ring ≡ None → length ring ≡ 0)
    × (length ring ≡ 0 → newest ring ≡ None)
newest_none [] = (λ h. refl, λ h. refl)
newest_none (pair ∷ older) = (λ h. absurd (cc), λ h. absurd (omega (arith, h)))

-- an entry of a counter that no pair has is no matter of the pairs
pub pairs_apart : (counters : List ℕ) (codes : List (Option Code)) (k : ℕ) (e : Option Code)
    → kept_code (pairs_of counters codes) k ≡ None
    → pairs_of counters (set codes k e) ≡ pairs_of counters codes
pairs_apart [] codes k e h = refl
pairs_apart (c ∷ cs) codes k e h = grind (arith, common_steps, pairs_apart cs codes k e)

-- a counter that has its place has a code
is_kept : (n : ℕ) (counters : List ℕ) (codes : List (Option Code)) (k : ℕ) → slice_get counters n ≡ Some k
    → kept_code (pairs_of counters codes) k ≡ None → ⊥
is_kept n [] codes k p h = cc
is_kept zero (c ∷ cs) codes k p h = grind (arith, common_steps)
is_kept (suc n) (c ∷ cs) codes k p h = grind (arith, common_steps, is_kept n cs codes k)

-- without its oldest pair a ring has no code for that pair's counter, and the same for every other
pub without_oldest : (n : ℕ) (counters : List ℕ) (codes : List (Option Code)) (oldest k : ℕ)
    → slice_get counters n ≡ Some oldest → length counters ≡ suc n
    → HasEachOnce (pairs_of counters codes) → kept_code (pairs_of (take n counters) codes) k
    ≡ (if k == oldest then None else kept_code (pairs_of counters codes) k)
without_oldest n [] codes oldest k p l once = cc
without_oldest zero (c ∷ []) codes oldest k p l once = grind (arith, common_steps)
without_oldest zero (c ∷ d ∷ cs) codes oldest k p l once = absurd (omega arith)
without_oldest (suc n) (c ∷ cs) codes oldest k p l once =
    grind (arith, common_steps, without_oldest n cs codes oldest k, is_kept n cs codes oldest)
