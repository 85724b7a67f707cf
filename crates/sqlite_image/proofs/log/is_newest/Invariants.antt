use Rattle.std.proofs.Common.{◌≢◌, ◌-◌, ◌<◌, ◌≤◌, ℕ}
use Rattle.sqlite_wal.specs.Recovery.{frame}
use Rattle.sqlite_wal.specs.Format.{page_number}
use Rattle.sqlite_image.specs.Place.{IsPlace}
use Rattle.sqlite_image.proofs.log.is_newest.Given as goal

abbrev pub invariant-loop-next : goal.invariant-loop-next
invariant-loop-next l = IsPlace l.size l.log l.next × (l.fn.place.number < l.next.number)
    × (l.next.number ≤ l.end.number) × ((j : ℕ) → l.fn.place.number < j → j < l.next.number
    → page_number (frame l.size l.log j) ≢ page_number (frame l.size l.log l.fn.place.number))

abbrev pub decreases-loop-next : goal.decreases-loop-next
decreases-loop-next l = l.end.number - l.next.number
