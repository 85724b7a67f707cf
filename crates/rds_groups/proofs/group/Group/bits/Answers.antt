use Rattle.std.proofs.Common.{◌≢◌, ℕ, ◌-◌, ◌/◌, ◌%◌, ◌^◌, ◌<◌, ◌==◌, false, List, length, ap, ◌∙◌, arith, slice_index}
use Rattle.std.proofs.Common.{get_or-set_other, get_or-set_same, below_more}
use Rattle.std.proofs.Math.ListN.{length-set}
use Rattle.std.proofs.lemmas.Nat.{and_mask}
use Rattle.std.proofs.lemmas.List.FromFn.{fill_by_all}
use Rattle.rds_groups.specs.Groups.{bit_at}
use Rattle.rds_groups.proofs.group.Group.bits.Goals as goal

pub loop-place-preserved : goal.loop-place-preserved
loop-place-preserved c =
    let at = c.loop-place.place in
    let sent = c.blocks-blocks.result in
    let within : at < length c.loop-place.bits = omega (arith, c.loop-place.invariant.0) in (
      length-set c.loop-place.bits at _ ∙ c.loop-place.invariant.0,
      below_more _ _
          (λ k h. let ne : k ≢ at = omega arith in rw get_or-set_other (c.loop-place.invariant.1 k h))
          (rw get_or-set_same
          (ap (λ (n : ℕ). n == 1) (and_mask (slice_index sent (at / 26) / 2 ^ (25 - at % 26)) 1)
          ∙ ap (λ (bs : List ℕ). slice_index bs (at / 26) / 2 ^ (25 - at % 26) % 2 == 1) c.blocks-blocks.ensures)),
    )

pub returns : goal.returns
returns c =
    fill_by_all (bit_at c.args.self.now) c.loop-place.bits 104 false c.loop-place.invariant.0
    (λ k h. c.loop-place.invariant.1 k (omega arith))
