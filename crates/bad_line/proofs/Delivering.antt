-- Writes of what waits.
use Rattle.std.proofs.Common.{◌≡◌, ℕ, min, List, ◌++◌, length, take, drop, sym, ap, ◌∙◌}
use Rattle.std.proofs.Common.{arith, append_assoc, leb, inl, inr}
use Rattle.std.proofs.lemmas.Bool.{cases_Bool}
use Rattle.std.proofs.lemmas.List.{take-append-drop, take_all}
use borrow.Author.Tests.{leb-true, leb-false}
use Rattle.bad_line.specs.Passages.{Direction}

-- the first bytes that wait went on behind those before
pub waits_less : (before now after : Direction) (sent buffer : List ℕ) (count : ℕ)
    → before.waiting ≡ sent ++ now.waiting
    → buffer ≡ now.waiting → after ≡ record now { waiting = drop count now.waiting }
    → before.waiting ≡ (sent ++ take count buffer) ++ after.waiting
waits_less before now after sent buffer count waits same gives =
    waits ∙ ap (λ (x : List ℕ). sent ++ x) (sym (take-append-drop count now.waiting))
    ∙ sym (append_assoc sent (take count now.waiting) (drop count now.waiting))
    ∙ ap (λ (x : List ℕ). (sent ++ take count x) ++ drop count now.waiting) (sym same)
    ∙ ap (λ (x : List ℕ). (sent ++ take count buffer) ++ x) (sym (ap (λ (d : Direction). d.waiting) gives))

pub still_same : (before now after : Direction) (waiting : List ℕ) → now ≡ record before { waiting = now.waiting }
    → after ≡ record now { waiting = waiting } → after ≡ record before { waiting = after.waiting }
still_same before now after waiting same gives =
    gives ∙ ap (λ (x : List ℕ). let d : Direction = record now { waiting = x } in d)
    (sym (ap (λ (d : Direction). d.waiting) gives))
    ∙ ap (λ (n : Direction). let d : Direction = record n { waiting = after.waiting } in d) same

pub take_least : (bytes : List ℕ) (count : ℕ) → count ≡ min (length bytes) 512 → take count bytes ≡ take 512 bytes
take_least bytes count is =
    elim (cases_Bool (leb (length bytes) 512)) [
      | inl short ↦ let few = leb-true (length bytes) 512 short in
          take_all count bytes (omega (arith, is, few)) ∙ sym (take_all 512 bytes few)
      | inr long ↦ let many = leb-false (length bytes) 512 long in
          let e : count ≡ 512 = omega (arith, is, many) in ap (λ (n : ℕ). take n bytes) e
    ]
