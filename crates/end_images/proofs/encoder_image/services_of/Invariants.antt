use Rattle.std.proofs.Common.{◌≡◌, ◌-◌, take, length}
use Rattle.end_images.proofs.encoder_image.services_of.Given as goal

-- those before the place were taken
abbrev pub invariant-loop-number : goal.invariant-loop-number
invariant-loop-number l = (l.services.items ≡ take l.place l.store.services) × (length l.services.items ≡ l.place)

abbrev pub decreases-loop-number : goal.decreases-loop-number
decreases-loop-number l = length l.store.services - l.place
