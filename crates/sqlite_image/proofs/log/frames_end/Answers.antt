use Rattle.std.proofs.Common.{refl, arith}
use Rattle.sqlite_image.proofs.log.frames_end.Goals as goal

pub loop-is_first-init : goal.loop-is_first-init
loop-is_first-init c = (
  c.start-place.ensures.place c.args.size,
  λ i low. absurd (omega (arith, c.start-place.ensures.first)),
  ((λ _ i is _. absurd (omega (arith, c.start-place.ensures.first))), λ _. refl),
)
