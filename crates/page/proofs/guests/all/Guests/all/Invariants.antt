use Rattle.std.proofs.Common.{◌≡◌, ◌-◌}
use Rattle.std.specs.Vec.{vec_len}
use Rattle.page.proofs.Rounds.{HasDone}
use Rattle.page.proofs.guests.all.Guests.all.Given as goal

-- all before the place did it
abbrev pub invariant-loop-place : goal.invariant-loop-place
invariant-loop-place g l = record {
  done : HasDone g.C.Connection.talk l.fn.self.own_only l.deed l.history l.fn.self.guests.items l.self.guests.items
      l.place;
  own_only : l.self.own_only ≡ l.fn.self.own_only;
}

abbrev pub decreases-loop-place : goal.decreases-loop-place
decreases-loop-place g l = vec_len l.self.guests - l.place
