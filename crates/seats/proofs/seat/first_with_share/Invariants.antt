use Rattle.std.proofs.Common.{◌<◌, ℕ, get_or}
use Rattle.seats.specs.declared.seat.Seat.{Seat}
use Rattle.seats.specs.Seats.{HasShare}
use Rattle.seats.proofs.seat.first_with_share.Given as goal

-- none before the place has the share
abbrev pub invariant-loop-place : goal.invariant-loop-place
invariant-loop-place l = (k : ℕ) (d : Seat) → k < l.place → HasShare l.most l.seats (get_or l.seats k d) → ⊥
