use Rattle.std.proofs.Common.{◌≡◌, ℕ, zero, suc, ◌+◌, ◌-◌, ◌<◌, ◌≤◌, List, [], ◌∷◌, ◌++◌, length, take, drop, refl, ◌∙◌}
use Rattle.std.proofs.Common.{ap, sym}
use Rattle.std.proofs.Common.{subst, arith, rules}
use Rattle.std.proofs.Math.Seq.{take-add}
use Rattle.std.specs.Io.KnownBytes.{Appends}
use Rattle.std.proofs.KnownBytes.{Appends-trans}
use Rattle.conformance_command.proofs.case_run.send.Goals as goal

take_short : (few many : ℕ) (xs : List ℕ) → few ≤ many → take few (take many xs) ≡ take few xs
take_short zero many xs less = refl
take_short (suc few) zero xs less = absurd (omega arith)
take_short (suc few) (suc many) [] less = refl
take_short (suc few) (suc many) (x ∷ xs) less = ap (λ l. x ∷ l) (take_short few many xs (omega arith))

take_most : (many : ℕ) (xs : List ℕ) → length (take many xs) ≤ many
take_most zero xs = omega arith
take_most (suc many) [] = omega arith
take_most (suc many) (x ∷ xs) = let rest = take_most many xs in omega (arith, rest)

pub loop-at-preserved : goal.loop-at-preserved
loop-at-preserved g c =
    let bytes = c.args.bytes.now in
    let at : ℕ = c.loop-at.at in
    let n : ℕ = c.min.result in
    let size : at + n - at ≡ n = omega arith in
    let joined = ap (λ k. take at bytes ++ take k (drop at bytes)) size ∙ sym (take-add at n bytes) in
    record {
      within = search rules;
      written = subst (Appends _ _) joined
          (Appends-trans _ _ _ _ _ c.loop-at.invariant.written c.in_default.ensures.ok);
    }

pub returns-in-Err-clause-some : goal.returns-in-Err-clause-some
returns-in-Err-clause-some g c =
    let bytes = c.args.bytes.now in
    let at : ℕ = c.loop-at.at in
    let n : ℕ = c.min.result in
    let part : ℕ = c.in-Err.part in
    let (within, wrote) = c.in-Err.ensures.err in
    let size : at + n - at ≡ n = omega arith in
    let most : length (take (at + n - at) (drop at bytes)) ≤ at + n - at = take_most (at + n - at) (drop at bytes) in
    let less : part < n = omega (arith, within, most, size) in
    let room : at + n ≤ length bytes = search rules in
    let short = take_short part (at + n - at) (drop at bytes) (omega (arith, within, most)) in
    let joined = ap (λ l. take at bytes ++ l) short ∙ sym (take-add at part bytes) in
    (omega (arith, less, room), subst (Appends _ _) joined (Appends-trans _ _ _ _ _ c.loop-at.invariant.written wrote))
