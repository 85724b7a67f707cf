use Rattle.std.proofs.Common.{◌≡◌, ◌-◌, ◌<◌, ◌≤◌, ℕ}
use Rattle.sqlite_wal.specs.Recovery.{frame, file_page}
use Rattle.sqlite_wal.specs.Format.{page_number, content}
use Rattle.sqlite_image.specs.Log.{IsNewest}
use Rattle.sqlite_image.specs.Place.{IsPlace}
use Rattle.sqlite_image.proofs.log.is_copied.Given as goal

abbrev pub invariant-loop-place : goal.invariant-loop-place
invariant-loop-place l = IsPlace l.size l.log l.place × (l.place.number ≤ l.end.number)
    × ((i : ℕ) → i < l.place.number → IsNewest l.size l.log l.end.number i
    → content (frame l.size l.log i) ≡ file_page l.size l.db (page_number (frame l.size l.log i)))

abbrev pub decreases-loop-place : goal.decreases-loop-place
decreases-loop-place l = l.end.number - l.place.number
