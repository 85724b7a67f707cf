use Rattle.std.proofs.Common.{◌≡◌, length, take}
use Rattle.air_edges.specs.Hearers.{seats_of}
use Rattle.air_edges.proofs.hearers.seats_of.Given as goal

-- the seats of those so far
abbrev pub invariant-loop-hearer : goal.invariant-loop-hearer
invariant-loop-hearer g l = record {
  are : l.seats.items ≡ seats_of (take l.hearer-index l.hearers);
  many : length l.seats.items ≡ l.hearer-index;
}
