-- Who comes to wait where connections are taken from some addresses alone (profile).
use Rattle.std.specs.Prelude.{ℕ, Bool, true, false, if◌then◌else◌, List, [], ◌∷◌, ◌++◌, Option}
use Rattle.device_edges.specs.declared.allowed.Network.{Network}
use Rattle.device_edges.specs.declared.lobby.Guest.{Guest}
use Rattle.device_edges.specs.Lobby.{arrived, has_place, with_place}

-- From where connections are taken, with no list from everywhere; and who waits.
pub record Door (G : Type 0) : Type 0 where
  pub allowed : Option (List Network)
  pub guests : List (Guest G)

-- Who waits behind one that came: where it is taken and there is a place it does; else those who did before.
abbrev pub met : {G : Type 0} → (taken : Bool) → G → (now : ℕ) → List (Guest G) → List (Guest G)
met true line now guests = if has_place guests then with_place guests ++ arrived line now ∷ [] else guests
met false line now guests = guests
