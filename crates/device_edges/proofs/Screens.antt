-- What first bytes tell of a connection they tell whatever comes behind them.
use Rattle.std.proofs.Common.{◌≡◌, ℕ, Bool, true, false, ◌&&◌, ◌||◌, List, [], ◌∷◌, ◌++◌, refl, sym, ap, ◌∙◌, nat_eq}
use Rattle.std.proofs.Common.{arith, leb, length, ◌≤◌}
use Rattle.std.proofs.lemmas.Bool.{and_parts, eqb-true, leb-true, false≢true}
use Rattle.std.specs.List.{list_any, list_all, starts_with}

-- ---- One beginning.

still : (o a b : List ℕ) → starts_with nat_eq a o ≡ true → starts_with nat_eq (a ++ b) o ≡ true
still [] a b p = refl
still (x ∷ o) [] b p = absurd (false≢true p)
still (x ∷ o) (y ∷ a) b p =
    let both = and_parts (nat_eq x y) (starts_with nat_eq a o) p in
    grind (arith, both.0, still o a b both.1)

-- what is neither as one beginning nor its first part is not as it, whatever comes
neither : (same first rest later : Bool) → (same && first) ≡ false → (same && rest) ≡ false
    → (first ≡ false → rest ≡ false → later ≡ false) → (same && later) ≡ false
neither true first rest later p q h = h p q
neither false first rest later p q h = refl

eq_swap : (x y : ℕ) → nat_eq x y ≡ nat_eq y x
eq_swap x y = go (nat_eq x y) (nat_eq y x) refl refl
  where
    go : (s t : Bool) → nat_eq x y ≡ s → nat_eq y x ≡ t → s ≡ t
    go true true e d = refl
    go false false e d = refl
    go true false e d = absurd (false≢true (sym d ∙ ap (λ z. nat_eq z x) (sym (eqb-true x y e))
        ∙ ap (λ z. nat_eq x z) (eqb-true x y e) ∙ e))
    go false true e d = absurd (false≢true (sym e ∙ ap (λ z. nat_eq z y) (sym (eqb-true y x d))
        ∙ ap (λ z. nat_eq y z) (eqb-true y x d) ∙ d))

never : (o a b : List ℕ) → starts_with nat_eq a o ≡ false → starts_with nat_eq o a ≡ false
    → starts_with nat_eq (a ++ b) o ≡ false
never [] a b p q = p
never (x ∷ o) [] b p q = absurd (false≢true (sym q))
never (x ∷ o) (y ∷ a) b p q =
    neither (nat_eq x y) (starts_with nat_eq a o) (starts_with nat_eq o a) (starts_with nat_eq (a ++ b) o) p
    (ap (λ t. t && starts_with nat_eq o a) (eq_swap x y) ∙ q) (never o a b)

-- ---- One of several.

either : (one all one' all' : Bool) → (one || all) ≡ true → (one ≡ true → one' ≡ true) → (all ≡ true → all' ≡ true)
    → (one' || all') ≡ true
either true all one' all' p h k = ap (λ t. t || all') (h refl)
either false all one' all' p h k = go one' (k p)
  where
    go : (t : Bool) → all' ≡ true → (t || all') ≡ true
    go true is = refl
    go false is = is

pub any_still : (os : List (List ℕ)) (a b : List ℕ) → list_any (λ o. starts_with nat_eq a o) os ≡ true
    → list_any (λ o. starts_with nat_eq (a ++ b) o) os ≡ true
any_still [] a b p = p
any_still (o ∷ os) a b p =
    either (starts_with nat_eq a o) (list_any (λ o. starts_with nat_eq a o) os) (starts_with nat_eq (a ++ b) o)
    (list_any (λ o. starts_with nat_eq (a ++ b) o) os) p (still o a b) (any_still os a b)

none : (one all : Bool) → (one || all) ≡ false → (one ≡ false) × (all ≡ false)
none true all p = absurd (false≢true (sym p))
none false all p = (refl, p)

pub any_never : (os : List (List ℕ)) (a b : List ℕ) → list_any (λ o. starts_with nat_eq a o) os ≡ false
    → list_any (λ o. starts_with nat_eq o a) os ≡ false → list_any (λ o. starts_with nat_eq (a ++ b) o) os ≡ false
any_never [] a b p q = p
any_never (o ∷ os) a b p q =
    let first = none (starts_with nat_eq a o) (list_any (λ o. starts_with nat_eq a o) os) p in
    let rest = none (starts_with nat_eq o a) (list_any (λ o. starts_with nat_eq o a) os) q in
    ap (λ t. t || list_any (λ o. starts_with nat_eq (a ++ b) o) os) (never o a b first.0 rest.0)
    ∙ any_never os a b first.1 rest.1

-- ---- How long one may be.

-- what one begins with is no longer than it
shorter : (o a : List ℕ) → starts_with nat_eq o a ≡ true → length a ≤ length o
shorter o [] p = grind arith
shorter [] (y ∷ a) p = absurd (false≢true p)
shorter (x ∷ o) (y ∷ a) p =
    let both = and_parts (nat_eq y x) (starts_with nat_eq o a) p in
    let rest = shorter o a both.1 in
    grind (arith, rest)

pub any_shorter : (os : List (List ℕ)) (a : List ℕ) (most : ℕ) → list_all (λ o. leb (length o) most) os ≡ true
    → list_any (λ o. starts_with nat_eq o a) os ≡ true → length a ≤ most
any_shorter [] a most all p = absurd (false≢true p)
any_shorter (o ∷ os) a most all p =
    let parts = and_parts (leb (length o) most) (list_all (λ o. leb (length o) most) os) all in
    go (starts_with nat_eq o a) refl p parts.0 (any_shorter os a most parts.1)
  where
    go : (t : Bool) → starts_with nat_eq o a ≡ t → (t || list_any (λ o. starts_with nat_eq o a) os) ≡ true
        → leb (length o) most ≡ true → (list_any (λ o. starts_with nat_eq o a) os ≡ true → length a ≤ most)
        → length a ≤ most
    go true e p short rest = grind (arith, shorter o a e, leb-true (length o) most short)
    go false e p short rest = rest p
