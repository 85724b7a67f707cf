-- The least number that is missing, and which of a line's numbers are acknowledged.
use Rattle.std.proofs.Common.{◌≡◌, ℕ, zero, suc, ◌+◌, ◌-◌, ◌<◌, ◌≤◌, ◌==◌, ◌||◌, Bool, true, false, List, take, Option}
use Rattle.std.proofs.Common.{nat_lt, refl, ap, sym, ◌∙◌, arith, inl, inr, eq-eqb}
use Rattle.std.specs.Prelude.{is_some}
use Rattle.std.proofs.lemmas.Bool.{cases_eq, cases_lt, cases_Bool, ne_eqb, eqb-true, lt-ltb, le-ltb, false≢true}
use Rattle.uecp_elements.specs.declared.code.Code.{Code}
use Rattle.reply_ring.specs.Ring.{newest}
use Rattle.uecp_encoder.specs.State.{next_after}
use Rattle.uecp_encoder.specs.State.{is_next as is_next_kept}
use Rattle.uecp_link.specs.Counters.{counter_of}
use Rattle.uecp_link.specs.Server.{is_marked}
use Rattle.uecp_link.specs.Once.{first_or, least_missing, is_next}
use Rattle.uecp_link.specs.Kept.{IsReady, pairs, code_at, held_from}
use Rattle.uecp_link.proofs.Ring.{next_is}
use Rattle.uecp_link.proofs.HeldNumbers.{missing_from, missing_is, near_differ}

-- where all below q are in the set, and q is not unless it is n, q is the least that is missing
pub least_is : (set : ℕ → Bool) (q count n : ℕ) → n ≡ q + count → ((j : ℕ) → j < q → set j ≡ true)
    → (0 < count → set q ≡ false) → least_missing set n ≡ q
least_is set q count n all below oldest = ap (λ ks. first_or ks n) (missing_is set q count n all below)
    ∙ go count all oldest
  where
    go : (c : ℕ) → n ≡ q + c → (0 < c → set q ≡ false) → first_or (missing_from set q c) n ≡ q
    go zero e some = omega (arith, e)
    go (suc c) e some = rw (some (omega arith)) refl

-- where the numbers below p have codes, p is the next
pub next_number : (codes : ℕ → Option Code) (p n k : ℕ) → ((j : ℕ) → is_some (codes j) ≡ nat_lt j p) → p ≤ n
    → is_next codes n k ≡ (k == p)
next_number codes p n k applied le =
    ap (λ (m : ℕ). k == m)
    (least_is (λ j. is_some (codes j)) p (n - p) n (omega (arith, le)) (λ j l. applied j ∙ lt-ltb j p l)
    (λ some. applied p ∙ le-ltb p p (omega arith)))

-- of the numbers from p on, of which there are few, p alone has the next counter
pub turn_is : (base : List (ℕ × Code)) → IsReady base → (codes : ℕ → Option Code) (p k : ℕ) → p ≤ k → k < p + 255
    → is_next_kept (take 127 (pairs base (code_at codes) p)) (counter_of k) ≡ (k == p)
turn_is base ready codes p k above near =
    let ring : List (ℕ × Code) = take 127 (pairs base (code_at codes) p) in
    let next : counter_of p ≡ next_after (newest ring) =
    eqb-true (counter_of p) (next_after (newest ring)) (next_is base (code_at codes) 126 p ready) in
    elim (cases_eq k p) [
      | inl e ↦ eq-eqb (counter_of k) (next_after (newest ring)) (ap counter_of e ∙ next) ∙ sym (eq-eqb k p e)
      | inr ne ↦ ne_eqb (counter_of k) (next_after (newest ring))
          (λ h. near_differ k p ne near (omega (arith, above)) (h ∙ sym next)) ∙ sym (ne_eqb k p ne)
    ]

-- ---- marks

marks_are : (sent : List (List ℕ)) (set : ℕ → Bool) (q count place : ℕ) → place < count
    → is_marked (held_from sent set q count) place ≡ set (q + place)
marks_are sent set q zero place l = absurd (omega arith)
marks_are sent set q (suc count) zero l = let e : q ≡ q + 0 = omega arith in ap set e
marks_are sent set q (suc count) (suc place) l =
    marks_are sent set (suc q) count place (omega arith)
    ∙ (let e : suc q + place ≡ q + suc place = omega arith in ap set e)

no_marks : (sent : List (List ℕ)) (set : ℕ → Bool) (q count place : ℕ) → count ≤ place
    → is_marked (held_from sent set q count) place ≡ false
no_marks sent set q zero place l = refl
no_marks sent set q (suc count) zero l = absurd (omega arith)
no_marks sent set q (suc count) (suc place) l = no_marks sent set (suc q) count place (omega arith)

pub or_false : (b c : Bool) → b ≡ false → (b || c) ≡ c
or_false true c h = absurd (false≢true (sym h))
or_false false c h = refl

pub or_true : (b c : Bool) → b ≡ true → (b || c) ≡ true
or_true true c h = refl
or_true false c h = absurd (false≢true h)

-- the numbers that are held no more, or held with a mark, are the set's
pub marked_or_gone : (sent : List (List ℕ)) (set : ℕ → Bool) (q count n : ℕ) → n ≡ q + count
    → ((j : ℕ) → j < q → set j ≡ true) → ((j : ℕ) → set j ≡ true → j < n)
    → (k : ℕ) → (nat_lt k q || is_marked (held_from sent set q count) (k - q)) ≡ set k
marked_or_gone sent set q count n all below within k =
    elim (cases_lt k q) [
      | inl l ↦ or_true (nat_lt k q) (is_marked (held_from sent set q count) (k - q)) (lt-ltb k q l) ∙ sym (below k l)
      | inr g ↦
          or_false (nat_lt k q) (is_marked (held_from sent set q count) (k - q)) (le-ltb k q g)
          ∙ elim (cases_lt (k - q) count) [
            | inl l ↦ marks_are sent set q count (k - q) l ∙ (let e : q + (k - q) ≡ k = omega (arith, g) in ap set e)
            | inr past ↦ no_marks sent set q count (k - q) past ∙ elim (cases_Bool (set k)) [
              | inl there ↦ absurd (let l : k < n = within k there in omega (arith, l, all, past, g))
              | inr not_there ↦ sym not_there
            ]
          ]
    ]
