use Rattle.std.proofs.Common.{◌≤◌, drop, length}
use Rattle.uecp_text.specs.Written.{Adds}
use Rattle.end_images.specs.Images.{pair_bytes}
use Rattle.end_images.proofs.encoder_image.add_pairs.Given as goal

-- those from the place on were added
abbrev pub invariant-loop-place : goal.invariant-loop-place
invariant-loop-place l = Adds l.fn.image l.image (pair_bytes (drop l.place l.ring)) × (l.place ≤ length l.ring)

abbrev pub decreases-loop-place : goal.decreases-loop-place
decreases-loop-place l = l.place
