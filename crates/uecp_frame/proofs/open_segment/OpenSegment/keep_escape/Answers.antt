use Rattle.std.proofs.Common.{◌≡◌, ◌<◌, ◌+◌, ◌∙◌, ℕ, zero, suc, List, [], ◌∷◌, ◌++◌, ap, sym, length, take}
use Rattle.std.proofs.Common.{drop, slice_index, arith, inl, inr, refl}
use Rattle.std.proofs.lemmas.Bool.{cases_lt, cases_eq, eqb-false}
use Rattle.std.proofs.Math.Seq.{take-add}
use Rattle.uecp_frame.specs.Stuffing.{stuffed}
use Rattle.uecp_frame.specs.Findings.{Part}
use Rattle.uecp_frame.specs.Beyond.{prolonged}
use Rattle.uecp_frame.proofs.Codes.{length-stuffed-escaped}
use Rattle.uecp_frame.proofs.Resumed.{length-stuffed-le}
use Rattle.uecp_frame.proofs.Pieces.{prolonged-append}
use Rattle.uecp_frame.proofs.Steps.{step_pair}
use Rattle.uecp_frame.proofs.open_segment.OpenSegment.keep_escape.Goals as goal

pair_at : (r : List ℕ) (u v : ℕ) → v ≡ u + 1 → v < length r → slice_index r u ≡ 253
    → take 2 (drop u r) ≡ 253 ∷ slice_index r v ∷ []
pair_at [] u v next some first = absurd (omega arith)
pair_at (a ∷ r) u zero next some first = absurd (omega arith)
pair_at (a ∷ []) u (suc v) next some first = absurd (omega arith)
pair_at (a ∷ b ∷ r) zero (suc zero) next some first = ap (λ n. n ∷ b ∷ []) first
pair_at (a ∷ b ∷ r) zero (suc (suc v)) next some first = absurd (omega arith)
pair_at (a ∷ b ∷ r) (suc u) (suc v) next some first = pair_at (b ∷ r) u v (omega arith) (omega arith) first

two_more : (P : ℕ → Type 0) (u : ℕ) → ((k : ℕ) → k < u → P k) → P u → P (u + 1) → (k : ℕ) → k < u + 2 → P k
two_more P u so_far first second k l = elim (cases_lt k u) [
  | inl below ↦ so_far k below
  | inr not_below ↦ elim (cases_eq k u) [
    | inl e ↦ rw e first
    | inr ne ↦ (let e : k ≡ u + 1 = omega arith in rw e second)
  ]
]

pub overflow_add-self : goal.overflow_add-self
overflow_add-self c = omega (
  arith,
  c.loop-used.invariant.counted,
  c.is_full.ensures.fits,
  length-stuffed-le c.loop-used.self.plain.items,
)

pub loop-used-preserved : goal.loop-used-preserved
loop-used-preserved c =
    let p = c.loop-used.self.plain.items in
    let rest = c.args.rest.now in
    let u = c.loop-used.used in
    let b = slice_index rest (u + 1) in
    let small : b < 3 = c.if-rest-used-lt-STUFFED.true in
    let escape : slice_index rest u ≡ 253 = c.if-rest-used.true in
    let ne = eqb-false (length p) 261 (sym c.is_full.ensures.value ∙ c.if-not-is_full.true) in
    let start = Part (record { plain = c.args.self.now.plain.items; rest = [] }) in
    record {
      fits = omega (arith, c.loop-used-test.true);
      inside = two_more (λ k. slice_index rest k < 254) u c.loop-used.invariant.inside (omega (arith, escape))
          (omega (arith, small));
      certain = c.loop-used.invariant.certain;
      plain = c.loop-used.invariant.plain;
      opened = c.loop-used.invariant.opened;
      counted = ap (λ (n : ℕ). n + 2) c.loop-used.invariant.counted
          ∙ sym (ap (λ q. length (stuffed q)) c.push.ensures.items ∙ length-stuffed-escaped p b small);
      part = ap (prolonged start) (take-add u 2 rest ∙ ap (λ x. take u rest ++ x)
          (pair_at rest u (u + 1) refl (omega (arith, c.loop-used-test.true)) escape))
          ∙ prolonged-append start (take u rest) (253 ∷ b ∷ [])
          ∙ ap (λ o. prolonged o (253 ∷ b ∷ [])) c.loop-used.invariant.part
          ∙ step_pair p b small (omega (arith, ne, c.is_full.ensures.fits))
          ∙ ap (λ q. Part (record { plain = q; rest = [] })) (sym c.push.ensures.items);
    }
