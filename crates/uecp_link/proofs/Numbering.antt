-- Small facts on numbers, sets and lists of messages.
use Rattle.std.proofs.Common.{◌≡◌, ℕ, zero, suc, ◌+◌, ◌<◌, Bool, true, false, List, [], ◌∷◌, ◌++◌, length, Option, Some}
use Rattle.std.proofs.Common.{None, nat_lt, refl, ap, sym, ◌∙◌, arith, inl, inr, eq-eqb}
use Rattle.std.specs.Prelude.{is_some, unwrap_or}
use Rattle.std.proofs.lemmas.Bool.{cases_eq, ne_eqb, lt-ltb, le-ltb, cases_lt}
use Rattle.std.proofs.lemmas.List.{get_or_push, get_or_append_left}
use Rattle.uecp_elements.specs.declared.code.Code.{Code}
use Rattle.uecp_elements.specs.declared.code.Code.TheVariants.{Applied}
use Rattle.uecp_link.specs.Counters.{next_counter, counter_of}
use Rattle.uecp_link.specs.Once.{message_at, with_code, with_member}
use Rattle.uecp_link.specs.Kept.{last_counter, code_at, IsMessage}

pub last_counter-next : (n : ℕ) → next_counter (last_counter n) ≡ last_counter (n + 1)
last_counter-next zero = refl
last_counter-next (suc k) = let h : suc k + 1 ≡ suc (suc k) = omega arith in rw h (omega arith)

pub last_counter-at : (n k : ℕ) → n ≡ k + 1 → last_counter n ≡ counter_of k
last_counter-at n k e = let h : n ≡ suc k = omega arith in rw h refl

pub code_at-some : (codes : ℕ → Option Code) (k : ℕ) (c : Code) → codes k ≡ Some c → code_at codes k ≡ c
code_at-some codes k c e = ap (λ o. unwrap_or o Applied) e

pub some_code_at : (o : Option Code) → is_some o ≡ true → Some (unwrap_or o Applied) ≡ o
some_code_at None h = cc
some_code_at (Some c) h = refl

pub none_of : (o : Option Code) → is_some o ≡ false → None ≡ o
none_of None h = refl
none_of (Some c) h = cc

pub is_some-of : (o : Option Code) (c : Code) → o ≡ Some c → is_some o ≡ true
is_some-of o c e = ap is_some e

pub is_none-of : (o : Option Code) → o ≡ None → is_some o ≡ false
is_none-of o e = ap is_some e

pub with_code-same : (codes : ℕ → Option Code) (k : ℕ) (c : Code) → with_code codes k c k ≡ Some c
with_code-same codes k c = rw (eq-eqb k k refl)

pub with_code-other : (codes : ℕ → Option Code) (k : ℕ) (c : Code) (j : ℕ) → (j ≡ k → ⊥)
    → with_code codes k c j ≡ codes j
with_code-other codes k c j ne = rw (ne_eqb j k ne)

-- one more number below p
pub below_next : (p j : ℕ) → (j ≡ p → ⊥) → nat_lt j p ≡ nat_lt j (p + 1)
below_next p j ne =
    elim (cases_lt j p) [
      | inl l ↦ lt-ltb j p l ∙ sym (lt-ltb j (p + 1) (omega arith))
      | inr g ↦ le-ltb j p g ∙ sym (le-ltb j (p + 1) (omega arith))
    ]

pub with_member-same : (set : ℕ → Bool) (k j : ℕ) → j ≡ k → with_member set k j ≡ true
with_member-same set k j e = rw (eq-eqb j k e)

pub with_member-other : (set : ℕ → Bool) (k j : ℕ) → (j ≡ k → ⊥) → with_member set k j ≡ set j
with_member-other set k j ne = rw (ne_eqb j k ne)

-- a member that the set has already
pub with_member-old : (set : ℕ → Bool) (k : ℕ) → set k ≡ true → (j : ℕ) → with_member set k j ≡ set j
with_member-old set k h j =
    elim (cases_eq j k) [
      | inl e ↦ with_member-same set k j e ∙ sym (ap set e ∙ h)
      | inr ne ↦ with_member-other set k j ne
    ]

-- what the set has stays
pub with_member-true : (set : ℕ → Bool) (k j : ℕ) → set j ≡ true → with_member set k j ≡ true
with_member-true set k j h =
    elim (cases_eq j k) [
      | inl e ↦ with_member-same set k j e
      | inr ne ↦ with_member-other set k j ne ∙ h
    ]

-- a map that has the numbers below p, with p
pub with_code-next : (codes : ℕ → Option Code) (p : ℕ) (c : Code) → ((k : ℕ) → is_some (codes k) ≡ nat_lt k p) → (j : ℕ)
    → is_some (with_code codes p c j) ≡ nat_lt j (p + 1)
with_code-next codes p c is j =
    elim (cases_eq j p) [
      | inl e ↦ rw (eq-eqb j p e, lt-ltb j (p + 1) (omega arith))
      | inr ne ↦ rw (ne_eqb j p ne) (is j ∙ below_next p j ne)
    ]

-- Messages.

pub message_at-push : (sent : List (List ℕ)) (m : List ℕ) (k : ℕ) → k ≡ length sent → message_at (sent ++ m ∷ []) k ≡ m
message_at-push sent m k e = get_or_push sent m [] k (sym e)

pub message_at-before : (sent : List (List ℕ)) (m : List ℕ) (k : ℕ) → k < length sent
    → message_at (sent ++ m ∷ []) k ≡ message_at sent k
message_at-before sent m k l = get_or_append_left sent (m ∷ []) [] k l

pub fits_push : (sent : List (List ℕ)) (m : List ℕ) → IsMessage m → ((k : ℕ) → IsMessage (message_at sent k)) → (k : ℕ)
    → IsMessage (message_at (sent ++ m ∷ []) k)
fits_push [] m fit all zero = fit
fits_push [] m fit all (suc k) = omega arith
fits_push (x ∷ xs) m fit all zero = all 0
fits_push (x ∷ xs) m fit all (suc k) = fits_push xs m fit (λ j. all (suc j)) k
