-- Numbers on their way: some of them, and how far one may stand behind a later one.
use Rattle.std.proofs.Common.{◌≡◌, ℕ, zero, suc, ◌+◌, ◌<◌, ◌≤◌, Bool, true, false, cond, List, [], ◌∷◌, ◌++◌}
use Rattle.std.proofs.Common.{refl, sym, subst, arith, inl, inr, ◌⊎◌}
use Rattle.std.specs.List.{AllByRecursion}
use Rattle.uecp_link.specs.Once.{missing}

-- these are some of those, in their order
abbrev pub Sub : (xs ys : List ℕ) → Type 0
Sub [] ys = Unit {0}
Sub (x ∷ xs) [] = ⊥
Sub (x ∷ xs) (y ∷ ys) = ((x ≡ y) × Sub xs ys) ⊎ Sub (x ∷ xs) ys

pub sub_all : (xs : List ℕ) → Sub xs xs
sub_all [] = tt
sub_all (x ∷ xs) = inl (refl, sub_all xs)

sub_more : (xs : List ℕ) (y : ℕ) (ys : List ℕ) → Sub xs ys → Sub xs (y ∷ ys)
sub_more [] y ys h = tt
sub_more (x ∷ xs) y ys h = inr h

pub sub_behind : (xs ys zs : List ℕ) → Sub xs ys → Sub xs (zs ++ ys)
sub_behind xs ys [] h = h
sub_behind xs ys (z ∷ zs) h = sub_more xs z (zs ++ ys) (sub_behind xs ys zs h)

pub sub_both : (xs ys zs ws : List ℕ) → Sub xs ys → Sub zs ws → Sub (xs ++ zs) (ys ++ ws)
sub_both [] ys zs ws h k = sub_behind zs ws ys k
sub_both (x ∷ xs) [] zs ws h k = absurd h
sub_both (x ∷ xs) (y ∷ ys) zs ws (inl (same, h)) k = inl (same, sub_both xs ys zs ws h k)
sub_both (x ∷ xs) (y ∷ ys) zs ws (inr h) k = inr (sub_both (x ∷ xs) ys zs ws h k)

pub all_sub : (P : ℕ → Type 0) (xs ys : List ℕ) → AllByRecursion P ys → Sub xs ys → AllByRecursion P xs
all_sub P [] ys all h = tt
all_sub P (x ∷ xs) [] all h = absurd h
all_sub P (x ∷ xs) (y ∷ ys) all (inl (same, h)) = (subst P (sym same) all.0, all_sub P xs ys all.1 h)
all_sub P (x ∷ xs) (y ∷ ys) all (inr h) = all_sub P (x ∷ xs) ys all.1 h

pub all_append : {A : Type 0} (P : A → Type 0) (xs ys : List A) → AllByRecursion P xs → AllByRecursion P ys
    → AllByRecursion P (xs ++ ys)
all_append P [] ys h k = k
all_append P (x ∷ xs) ys h k = (h.0, all_append P xs ys h.1 k)

pub all_front : (P : ℕ → Type 0) (xs ys : List ℕ) → AllByRecursion P (xs ++ ys) → AllByRecursion P xs
all_front P [] ys h = tt
all_front P (x ∷ xs) ys h = (h.0, all_front P xs ys h.1)

pub all_back : (P : ℕ → Type 0) (xs ys : List ℕ) → AllByRecursion P (xs ++ ys) → AllByRecursion P ys
all_back P [] ys h = h
all_back P (x ∷ xs) ys h = all_back P xs ys h.1

pub all_so : (P Q : ℕ → Type 0) (xs : List ℕ) → ((k : ℕ) → P k → Q k) → AllByRecursion P xs → AllByRecursion Q xs
all_so P Q [] so h = tt
all_so P Q (x ∷ xs) so h = (so x h.0, all_so P Q xs so h.1)

-- each is at most seven more than any that comes behind it
abbrev pub Falls : List ℕ → Type 0
Falls [] = Unit {0}
Falls (i ∷ is) = AllByRecursion (λ j. i < j + 8) is × Falls is

falls_sub : (xs ys : List ℕ) → Falls ys → Sub xs ys → Falls xs
falls_sub [] ys f h = tt
falls_sub (x ∷ xs) [] f h = absurd h
falls_sub (x ∷ xs) (y ∷ ys) f (inl (same, h)) = (
  all_sub (λ j. x < j + 8) xs ys (subst (λ i. AllByRecursion (λ j. i < j + 8) ys) (sym same) f.0) h,
  falls_sub xs ys f.1 h,
)
falls_sub (x ∷ xs) (y ∷ ys) f (inr h) = falls_sub (x ∷ xs) ys f.1 h

-- On their way: each was sent, of so many, and is at most seven behind what was heard last; in the order in which they
-- were written.
pub record AreOnTheWay (n top : ℕ) (ks : List ℕ) : Type 0 where
  pub sent : AllByRecursion (λ k. k < n) ks
  pub near : AllByRecursion (λ k. top ≤ k + 8) ks
  pub falls : Falls ks

pub some_on_the_way : (n top : ℕ) (xs ys : List ℕ) → AreOnTheWay n top ys → Sub xs ys → AreOnTheWay n top xs
some_on_the_way n top xs ys w h = record {
  sent = all_sub (λ k. k < n) xs ys w.sent h;
  near = all_sub (λ k. top ≤ k + 8) xs ys w.near h;
  falls = falls_sub xs ys w.falls h;
}

-- more are written, of the last eight
pub more_on_the_way : (n top : ℕ) (xs ys : List ℕ) → top ≤ n → AreOnTheWay n top xs
    → AllByRecursion (λ k. k < n) ys → AllByRecursion (λ k. n ≤ k + 8) ys → AreOnTheWay n top (xs ++ ys)
more_on_the_way n top xs ys le w below last = record {
  sent = all_append (λ k. k < n) xs ys w.sent below;
  near = all_append (λ k. top ≤ k + 8) xs ys w.near
      (all_so (λ k. n ≤ k + 8) (λ k. top ≤ k + 8) ys (λ k h. omega (arith, h, le)) last);
  falls = falls_on xs w.sent w.falls;
}
  where
    later : (i : ℕ) → i < n → (zs : List ℕ) → AllByRecursion (λ k. n ≤ k + 8) zs → AllByRecursion (λ j. i < j + 8) zs
    later i l zs all = all_so (λ k. n ≤ k + 8) (λ j. i < j + 8) zs (λ k h. omega (arith, h, l)) all

    falls_new : (zs : List ℕ) → AllByRecursion (λ k. k < n) zs → AllByRecursion (λ k. n ≤ k + 8) zs → Falls zs
    falls_new [] b l = tt
    falls_new (z ∷ zs) b l = (later z b.0 zs l.1, falls_new zs b.1 l.1)

    falls_on : (zs : List ℕ) → AllByRecursion (λ k. k < n) zs → Falls zs → Falls (zs ++ ys)
    falls_on [] b f = falls_new ys below last
    falls_on (z ∷ zs) b f = (
      all_append (λ j. z < j + 8) zs ys f.0 (later z b.0 ys last),
      falls_on zs b.1 f.1,
    )

-- the first is heard
pub heard_on_the_way : (n top k : ℕ) (ks : List ℕ) → AreOnTheWay n top (k ∷ ks)
    → (top1 : ℕ) × (top ≤ top1) × (k < top1) × (top1 ≤ n ⊎ top1 ≡ top) × AreOnTheWay n top1 ks
heard_on_the_way n top k ks w = by (cases_le top (k + 1))
  where
    cases_le : (a b : ℕ) → (a ≤ b) ⊎ (b ≤ a)
    cases_le a b = elim (Rattle.std.proofs.lemmas.Bool.cases_lt a b) [
      | inl l ↦ inl (omega (arith, l))
      | inr l ↦ inr l
    ]

    by : ((top ≤ k + 1) ⊎ (k + 1 ≤ top))
        → (top1 : ℕ) × (top ≤ top1) × (k < top1) × (top1 ≤ n ⊎ top1 ≡ top) × AreOnTheWay n top1 ks
    by (inl up) = (
      k + 1,
      up,
      omega arith,
      inl (let l = w.sent.0 in omega (arith, l)),
      record {
        sent = w.sent.1;
        near = all_so (λ j. k < j + 8) (λ j. k + 1 ≤ j + 8) ks (λ j h. omega (arith, h)) w.falls.0;
        falls = w.falls.1;
      },
    )
    by (inr down) = (
      top,
      omega arith,
      omega (arith, down),
      inr refl,
      record { sent = w.sent.1; near = w.near.1; falls = w.falls.1 },
    )

-- what is missing
pub missing_have : (P : ℕ → Type 0) (set : ℕ → Bool) (n : ℕ)
    → ((k : ℕ) → k < n → set k ≡ false → P k) → AllByRecursion P (missing set n)
missing_have P set zero each = tt
missing_have P set (suc n) each =
    all_append P (missing set n) (cond (set n) [] (n ∷ []))
    (missing_have P set n (λ k l is. each k (omega (arith, l)) is)) (last (set n) refl)
  where
    last : (b : Bool) → set n ≡ b → AllByRecursion P (cond b [] (n ∷ []))
    last true is = tt
    last false is = (each n (omega arith) is, tt)
