use Rattle.page.specs.Visits.{AreServed}
use Rattle.page.proofs.guests.all.Guests.close.Given as goal

-- those who are left live
abbrev pub invariant-loop-guest : goal.invariant-loop-guest
invariant-loop-guest g l = AreServed g.C.Connection.talk l.fn.self.own_only l.history l.guests.items

abbrev pub decreases-loop-guest : goal.decreases-loop-guest
decreases-loop-guest g l = goal.left-loop-guest g l
