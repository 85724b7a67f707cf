-- Lists that come apart alike.
use Rattle.std.proofs.Common.{◌≡◌, ℕ, zero, suc, ◌+◌, ◌<◌, ◌≤◌, ◌==◌, ◌||◌, Bool, true, false, List, []}
use Rattle.std.proofs.Common.{◌∷◌, ◌++◌, length, arith, refl, sym, subst}
use Rattle.std.specs.List.{AllByRecursion, list_any}
use Rattle.std.proofs.Common.{inl, inr}
use Rattle.std.proofs.lemmas.Bool.{eqb-true}
use Rattle.std.proofs.lemmas.Bool.Decides.{eqb_tells}
use Rattle.rds_store.specs.Refusals.{count_up}

-- fronts of the same length are the same, and so is what is behind them
pub apart : (xs ys us vs : List ℕ) → length xs ≡ length ys → xs ++ us ≡ ys ++ vs → (xs ≡ ys) × (us ≡ vs)
apart [] [] us vs long same = (refl, same)
apart [] (y ∷ ys) us vs long same = absurd (omega (arith, long))
apart (x ∷ xs) [] us vs long same = absurd (omega (arith, long))
apart (x ∷ xs) (y ∷ ys) us vs long same =
    let first : x ≡ y = cc in
    let behind : xs ++ us ≡ ys ++ vs = cc in
    let rest = apart xs ys us vs (omega (arith, long)) behind in
    (λ i. first i ∷ rest.0 i, rest.1)

-- what is so of all is so of one that is among them
pub among : (P : ℕ → Type 0) (n : ℕ) (ns : List ℕ) → AllByRecursion P ns → list_any (λ s. n == s) ns ≡ true → P n
among P n [] all is = absurd (cc)
among P n (m ∷ ns) all is = go (n == m) refl is (among P n ns all.1)
  where
    go : (b : Bool) → (n == m) ≡ b → (b || list_any (λ s. n == s) ns) ≡ true → (list_any (λ s. n == s) ns ≡ true → P n)
        → P n
    go true same is more = subst P (sym (eqb-true n m same)) all.0
    go false same is more = more is

-- and of a number that is counted
pub counted : (P : ℕ → Type 0) (k first n : ℕ) → AllByRecursion P (count_up k first) → first ≤ n → n < first + k → P n
counted P zero first n all least most = absurd (omega (arith, least, most))
counted P (suc k) first n all least most = elim (eqb_tells n first) [
  | inl found ↦ subst P (sym found.1) all.0
  | inr past ↦ counted P k (first + 1) n all.1 (let other = past.1 in omega (arith, least, other)) (omega (arith, most))
]
