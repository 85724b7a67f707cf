-- Laws of who gives its place (profile).
use Rattle.std.specs.Prelude.{◌≡◌, ◌≤◌, ◌<◌, ℕ, false, List, slice_index_or}
use Rattle.seats.specs.declared.seat.Seat.{Seat}
use Rattle.seats.specs.Seats.{share, IsSeatGiven, NoSeatGiven}

-- Law: one that is not behind gives its place only where no origin has more places than its own, and the one more's
-- origin has fewer.
abbrev pub FewKeep : Type 0
FewKeep = (origin place other : ℕ) (seats : List Seat) (d : Seat) → IsSeatGiven origin place seats
    → (slice_index_or seats place d).is_behind ≡ false
    → (share other seats ≤ share (slice_index_or seats place d).origin seats)
    × (share origin seats < share (slice_index_or seats place d).origin seats)

-- Law: one more whose origin has fewer places than another gets one.
abbrev pub FewerGetIn : Type 0
FewerGetIn = (origin other : ℕ) (seats : List Seat) → share origin seats < share other seats
    → NoSeatGiven origin seats → ⊥
