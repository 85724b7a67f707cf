use Rattle.std.proofs.Common.{◌≡◌, length, take}
use Rattle.page.specs.EventPlaces.{seats_of}
use Rattle.page.proofs.guests.all.Guests.seat_given.Given as goal

-- the seats of those so far
abbrev pub invariant-loop-guest : goal.invariant-loop-guest
invariant-loop-guest g l = record {
  items : l.all.items ≡ seats_of g.C.Connection.origin l.kind (take l.guest-index l.self.guests.items);
  count : length l.all.items ≡ l.guest-index;
}
