use Rattle.std.proofs.Common.{◌<◌, ◌≢◌, ℕ, get_or}
use Rattle.page.specs.declared.guests.guest.Guest.{Guest}
use Rattle.page.proofs.guests.all.Guests.place_of.Given as goal

-- none before the place has the number
abbrev pub invariant-loop-place : goal.invariant-loop-place
invariant-loop-place g l = (k : ℕ) (d : Guest g.row.C.Denot) → k < l.place
    → g.C.Connection.numbered (get_or l.self.guests.items k d).connection ≢ l.number
