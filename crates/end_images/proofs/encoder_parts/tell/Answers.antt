use Rattle.std.proofs.Common.{◌≡◌, [], length, refl, subst, arith}
use Rattle.end_images.specs.Parsing.{Tells}
use Rattle.end_images.proofs.Telling.{told_all, none_long}
use Rattle.end_images.proofs.encoder_parts.tell.Goals as goal

pub returns-in-None-clause-told : goal.returns-in-None-clause-told
returns-in-None-clause-told c = λ after tells. absurd
    (c.in-None.ensures.told after (c.loop-rest.invariant.0 after tells))

pub returns-clause-told : goal.returns-clause-told
returns-clause-told c = λ after tells.
    let many : length c.loop-rest.rest.now ≡ 0 = grind arith in
    let none : c.loop-rest.rest.now ≡ [] = none_long c.loop-rest.rest.now many in (
      refl,
      told_all c.loop-rest.store after
          (subst (λ rest. Tells c.loop-rest.store rest after) none (c.loop-rest.invariant.0 after tells)),
    )
