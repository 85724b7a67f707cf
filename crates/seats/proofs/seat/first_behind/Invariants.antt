use Rattle.std.proofs.Common.{◌<◌, ℕ, get_or}
use Rattle.seats.specs.declared.seat.Seat.{Seat}
use Rattle.seats.specs.Seats.{IsBehind}
use Rattle.seats.proofs.seat.first_behind.Given as goal

-- none before the place is behind
abbrev pub invariant-loop-place : goal.invariant-loop-place
invariant-loop-place l = (k : ℕ) (d : Seat) → k < l.place → IsBehind (get_or l.seats k d) → ⊥
