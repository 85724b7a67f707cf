use Rattle.std.proofs.Common.{◌-◌, drop, length, flat_map}
use Rattle.uecp_text.proofs.Public.{Leads}
use Rattle.end_images.specs.Images.{held_bytes}
use Rattle.end_images.proofs.server_image.add_held.Given as goal

-- what is left leads to the same
abbrev pub invariant-loop-held : goal.invariant-loop-held
invariant-loop-held l =
    Leads l.fn.image l.image (flat_map held_bytes (drop l.place l.server.held)) (flat_map held_bytes l.server.held)

abbrev pub decreases-loop-held : goal.decreases-loop-held
decreases-loop-held l = length l.server.held - l.place
