use Rattle.std.proofs.Common.{◌≡◌, ◌≤◌, ◌<◌, ◌⊎◌, ℕ, get_or}
use Rattle.seats.specs.declared.seat.Seat.{Seat}
use Rattle.seats.specs.Seats.{share}
use Rattle.seats.proofs.seat.most_places.Given as goal

-- no origin of those so far has more, and one has so many
abbrev pub invariant-loop-seat : goal.invariant-loop-seat
invariant-loop-seat l = record {
  no_more : (k : ℕ) (d : Seat) → k < l.seat-index → share (get_or l.seats k d).origin l.seats ≤ l.most;
  some_has : (l.most ≡ 0) ⊎ ((origin : ℕ) × (share origin l.seats ≡ l.most));
}
