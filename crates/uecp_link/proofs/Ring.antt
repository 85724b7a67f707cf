-- The ring: numbers that meet have different counters, so the ring answers as a map from numbers.
use Rattle.std.proofs.Common.{◌≡◌, ℕ, zero, suc, ◌+◌, ◌%◌, ◌<◌, ◌≤◌, ◌-◌, true, List, [], ◌∷◌, length, map, take, Some}
use Rattle.std.proofs.Common.{None, refl, ap, sym, ◌∙◌, arith, inl, inr, eq-eqb}
use Rattle.std.proofs.lemmas.Bool.{cases_eq, ne_eqb}
use Rattle.uecp_elements.specs.declared.code.Code.{Code}
use Rattle.reply_ring.specs.Ring.{kept_code, newest, keep}
use Rattle.uecp_encoder.specs.State.{next_after, is_next}
use Rattle.uecp_encoder.specs.Joining.{falling}
use Rattle.uecp_link.specs.Counters.{counter_of}
use Rattle.uecp_link.specs.Kept.{IsReady, pairs}
use Rattle.uecp_link.proofs.Ready.{ready_counters}

-- numbers less than 255 apart have different counters
pub counters_differ : (a b : ℕ) → b < a → a < b + 255 → counter_of a ≡ counter_of b → ⊥
counters_differ a b l h e = omega arith

pub kept_code-same : (x y : ℕ) (c : Code) (ps : List (ℕ × Code)) → x ≡ y → kept_code ((x, c) ∷ ps) y ≡ Some c
kept_code-same x y c ps e = rw (eq-eqb x y e)

pub kept_code-other : (x y : ℕ) (c : Code) (ps : List (ℕ × Code)) → (x ≡ y → ⊥)
    → kept_code ((x, c) ∷ ps) y ≡ kept_code ps y
kept_code-other x y c ps ne = rw (ne_eqb x y ne)

-- the last w pairs have the code of each of the last w numbers
pub kept_code-found : (base : List (ℕ × Code)) (c : ℕ → Code) (w p k : ℕ) → w ≤ 255 → k < p → p ≤ k + w
    → kept_code (take w (pairs base c p)) (counter_of k) ≡ Some (c k)
kept_code-found base c zero p k small l h = absurd (omega arith)
kept_code-found base c (suc w) zero k small l h = absurd (omega arith)
kept_code-found base c (suc w) (suc p) k small l h =
    elim (cases_eq k p) [
      | inl e ↦ kept_code-same (counter_of p) (counter_of k) (c p) (take w (pairs base c p)) (ap counter_of (sym e))
          ∙ ap (λ j. Some (c j)) (sym e)
      | inr ne ↦
          let below : k < p = omega arith in
          let near : p ≤ k + w = omega arith in
          let apart : p < k + 255 = omega arith in
          kept_code-other (counter_of p) (counter_of k) (c p) (take w (pairs base c p))
          (counters_differ p k below apart) ∙ kept_code-found base c w p k (omega arith) below near
    ]

absent_in_front : (w : ℕ) (ps : List (ℕ × Code)) (first counter : ℕ)
    → map (λ pair. pair.0) ps ≡ falling first (length ps) → counter + w ≤ first → kept_code (take w ps) counter ≡ None
absent_in_front zero ps first counter is far = refl
absent_in_front (suc w) [] first counter is far = refl
absent_in_front (suc w) (pair ∷ ps) first counter is far =
    let head : pair.0 ≡ first = cc in
    let tail : map (λ pair. pair.0) ps ≡ falling (first - 1) (length ps) = cc in
    kept_code-other pair.0 counter pair.1 (take w ps) (λ same. omega (arith, same, head, far))
    ∙ absent_in_front w ps (first - 1) counter tail (omega (arith, far))

next_is_first : (w : ℕ) (ps : List (ℕ × Code)) → map (λ pair. pair.0) ps ≡ falling 255 (length ps)
    → next_after (newest (take (suc w) ps)) ≡ 1
next_is_first w [] is = refl
next_is_first w (pair ∷ ps) is = let head : pair.0 ≡ 255 = cc in ap (λ m. 1 + m % 255) head

-- and nothing for the numbers that come next
pub kept_code-absent : (base : List (ℕ × Code)) (c : ℕ → Code) (w p j : ℕ) → IsReady base → p ≤ j → j + w < p + 255
    → kept_code (take w (pairs base c p)) (counter_of j) ≡ None
kept_code-absent base c zero p j ready l h = refl
kept_code-absent base c (suc w) zero j ready l h =
    absent_in_front (suc w) base 255 (counter_of j) (ready_counters base ready) (omega arith)
kept_code-absent base c (suc w) (suc p) j ready l h =
    let below : p < j = omega arith in
    let apart : j < p + 255 = omega arith in
    kept_code-other (counter_of p) (counter_of j) (c p) (take w (pairs base c p))
    (λ e. counters_differ j p below apart (sym e))
    ∙ kept_code-absent base c w p j ready (omega arith) (omega arith)

-- the number after the last w has the next counter
pub next_is : (base : List (ℕ × Code)) (c : ℕ → Code) (w p : ℕ) → IsReady base
    → is_next (take (suc w) (pairs base c p)) (counter_of p) ≡ true
next_is base c w zero ready = eq-eqb 1 (next_after (newest (take (suc w) base)))
    (sym (next_is_first w base (ready_counters base ready)))
next_is base c w (suc p) ready = eq-eqb (counter_of (suc p)) (1 + counter_of p % 255) (omega arith)

-- the pairs depend on the codes below p alone
pub pairs_agree : (base : List (ℕ × Code)) (c d : ℕ → Code) (p : ℕ) → ((k : ℕ) → k < p → c k ≡ d k)
    → pairs base c p ≡ pairs base d p
pairs_agree base c d zero h = refl
pairs_agree base c d (suc p) h =
    let rest : pairs base c p ≡ pairs base d p = pairs_agree base c d p (λ k l. h k (omega arith)) in
    cc (h p (omega arith))

-- cutting twice is cutting once
pub take-take_same : {A : Type 0} (w : ℕ) (xs : List A) → take w (take w xs) ≡ take w xs
take-take_same zero xs = refl
take-take_same (suc w) [] = refl
take-take_same (suc w) (x ∷ xs) = ap (λ ys. x ∷ ys) (take-take_same w xs)

-- keeping the next number's pair gives the ring of one more number
pub keep_next : (base : List (ℕ × Code)) (c : ℕ → Code) (p : ℕ)
    → keep (take 127 (pairs base c p)) (counter_of p) (c p) ≡ take 127 (pairs base c (suc p))
keep_next base c p = ap (λ ys. (counter_of p, c p) ∷ ys) (cut 126 (pairs base c p))
  where
    cut : {A : Type 0} (w : ℕ) (xs : List A) → take w (take (suc w) xs) ≡ take w xs
    cut zero xs = refl
    cut (suc w) [] = refl
    cut (suc w) (x ∷ xs) = ap (λ ys. x ∷ ys) (cut w xs)
