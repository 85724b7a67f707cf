use Rattle.std.proofs.Common.{◌≡◌, ◌-◌, ◌<◌, ◌≤◌, ℕ, length}
use Rattle.sqlite_image.specs.Log.{IsEnd}
use Rattle.sqlite_image.specs.Place.{IsPlace}
use Rattle.sqlite_image.proofs.log.save_end.Given as goal

abbrev pub invariant-loop-first : goal.invariant-loop-first
invariant-loop-first l = IsPlace l.size l.log l.place × (l.first ≡ l.fn.first) × (l.first.number ≤ l.place.number)
    × ((i : ℕ) → i < l.place.number → ¬ IsEnd l.size l.log l.first.number i)

abbrev pub decreases-loop-first : goal.decreases-loop-first
decreases-loop-first l = length l.log - l.place.at
