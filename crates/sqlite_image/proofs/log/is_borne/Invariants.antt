use Rattle.std.proofs.Common.{◌-◌, ◌<◌, ◌≤◌, ℕ, length}
use Rattle.sqlite_image.specs.Log.{Bears}
use Rattle.sqlite_image.specs.Place.{IsPlace}
use Rattle.sqlite_image.proofs.log.is_borne.Given as goal

abbrev pub invariant-loop-next : goal.invariant-loop-next
invariant-loop-next l = IsPlace l.size l.log l.next × (l.fn.place.number ≤ l.next.number)
    × ((i : ℕ) → l.fn.place.number ≤ i → i < l.next.number → ¬ Bears l.size l.log i)

abbrev pub decreases-loop-next : goal.decreases-loop-next
decreases-loop-next l = length l.log - l.next.at
