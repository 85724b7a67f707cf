use Rattle.std.proofs.Common.{◌≡◌, ◌-◌, ◌++◌, length}
use Rattle.std.specs.Option.{option_map}
use Rattle.end_images.specs.Parsing.{kept_each}
use Rattle.end_images.proofs.server_parts.kept_few.Given as goal

-- those that were read and those that are left are all
abbrev pub invariant-loop-place : goal.invariant-loop-place
invariant-loop-place l =
    (option_map (λ ms. l.held.items ++ ms) (kept_each (l.count - l.place) l.rest) ≡ kept_each l.count l.fn.messages)
    × (length l.held.items ≡ l.place)
