-- A place in a log, before a frame.
use Rattle.std.specs.Prelude.{◌≡◌, ◌≤◌, ℕ, List, length}
use Rattle.sqlite.specs.Recovery.{frame_at, sum_before}
use Rattle.sqlite_image.specs.declared.log.Place.{Place}

-- so many frames are before it, whatever they are, and it lies in the log
pub record IsPlace (size : ℕ) (log : List ℕ) (place : Place) : Type 0 where
  pub at_is : place.at ≡ frame_at size place.number
  pub sum_is : place.sum ≡ sum_before size log place.number
  pub within : place.at ≤ length log
