use Rattle.std.proofs.Common.{◌≡◌, ◌<◌, ◌≤◌, ◌+◌, ◌-◌, ◌∙◌, ℕ, List, ap, subst, arith, length, take, drop, get_or}
use Rattle.std.proofs.Common.{length-drop, inl, inr}
use Rattle.std.proofs.lemmas.Bool.{cases_lt}
use Rattle.std.proofs.lemmas.List.{get_or-take, get_or-drop, length-take-le}
use Rattle.uecp_frame.proofs.search.run_below.Goals as goal

-- a run goes on where one ends
goes_on : (bytes : List ℕ) (limit used m n : ℕ) → n ≤ m → ((k : ℕ) → k < used → get_or bytes k 0 < limit)
    → ((k : ℕ) → k < n → get_or (take m (drop used bytes)) k 0 < limit)
    → (k : ℕ) → k < used + n → get_or bytes k 0 < limit
goes_on bytes limit used m n fits before more k l = elim (cases_lt k used) [
  | inl within ↦ before k within
  | inr behind ↦ (let e : used + (k - used) ≡ k = omega arith in
      subst (λ b. b < limit) (get_or-take m (drop used bytes) (k - used) 0 (omega arith)
      ∙ get_or-drop used bytes (k - used) 0 ∙ ap (λ i. get_or bytes i 0) e) (more (k - used) (omega arith)))
]

pub loop-used-preserved : goal.loop-used-preserved
loop-used-preserved c = record {
  fits = omega (arith, c.loop-used-test.true);
  below = goes_on c.args.bytes.now c.args.limit c.loop-used.used _ 8 (omega arith) c.loop-used.invariant.below
      (c.are_below.ensures.yes c.if-are_below.true);
}

pub returns-clause-below : goal.returns-clause-below
returns-clause-below c =
    let bytes = c.args.bytes.now in
    let used = c.loop-used.used in
    let rest = length-take-le (length bytes - used) (drop used bytes) (omega (arith, length-drop used bytes)) in
    goes_on bytes c.args.limit used _ c.run_byte_by_byte.result (omega (arith, c.run_byte_by_byte.ensures.fits, rest))
    c.loop-used.invariant.below c.run_byte_by_byte.ensures.below
