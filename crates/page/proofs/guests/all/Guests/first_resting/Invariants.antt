use Rattle.std.proofs.Common.{◌<◌, ℕ, get_or}
use Rattle.page.specs.declared.guests.guest.Guest.{Guest}
use Rattle.page.specs.Places.{RestsIn}
use Rattle.page.proofs.guests.all.Guests.first_resting.Given as goal

-- none before the place rests so
abbrev pub invariant-loop-place : goal.invariant-loop-place
invariant-loop-place g l = (k : ℕ) (d : Guest g.row.C.Denot) → k < l.place
    → RestsIn l.phase (get_or l.self.guests.items k d) → ⊥
