use Rattle.std.proofs.Common.{◌-◌, ◌<◌, ℕ, length, IsTrue, ◌↔◌}
use Rattle.sqlite_wal.specs.Recovery.{Passes}
use Rattle.sqlite_image.specs.Log.{IsFirst}
use Rattle.sqlite_image.specs.Place.{IsPlace}
use Rattle.sqlite_image.proofs.log.frames_end.Given as goal

abbrev pub invariant-loop-is_first : goal.invariant-loop-is_first
invariant-loop-is_first l = IsPlace l.size l.log l.place × ((i : ℕ) → i < l.place.number → Passes l.size l.log i)
    × (IsTrue l.is_first ↔ IsFirst l.size l.log l.place.number)

abbrev pub decreases-loop-is_first : goal.decreases-loop-is_first
decreases-loop-is_first l = length l.log - l.place.at
