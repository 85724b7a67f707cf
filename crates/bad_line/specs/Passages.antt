-- What passes in one direction of a connection with faults (profile).
use Rattle.std.specs.Prelude.{◌≡◌, ◌<◌, ◌≤◌, ℕ, Bool, true, false, List, [], ◌∷◌, ◌++◌, length, take}
use Rattle.std.specs.List.{list_any}
use Rattle.bad_line.specs.declared.rules.fate.Fate.{Fate}
use Rattle.bad_line.specs.Fates.{Passing}
use Rattle.bad_line.specs.Crossing.{Cutting, Crosses}

-- One direction of a connection: its stream as it is cut; what has come out and was not handed on yet; and whether the
-- connection has broken.
pub record Direction : Type 0 where
  pub cutting : Cutting
  pub waiting : List ℕ
  pub is_broken : Bool

-- A direction of a new connection, with the faults that go on from the one before.
abbrev pub opened : Passing → Direction
opened faults = record { cutting = record { held = []; faults = faults }; waiting = []; is_broken = false }

-- Whether the connection breaks behind a segment.
abbrev pub is_break : Fate → Bool
is_break fate = fate.breaks

-- The connection has broken behind the last of these segments, and behind none before; or behind none.
abbrev pub BreaksAtLast : List Fate → (is_broken : Bool) → Type 0
BreaksAtLast fates false = list_any is_break fates ≡ false
BreaksAtLast fates true = (before : List Fate) × (last : Fate) × (fates ≡ before ++ last ∷ [])
    × (list_any is_break before ≡ false) × (is_break last ≡ true)

-- So many of the bytes that came crossed, and behind the last of them the connection may have broken. What came out of
-- them waits behind what waited.
pub record Takes (old new : Direction) (bytes : List ℕ) (used : ℕ) : Type 0 where
  pub out : List ℕ
  pub fates : List Fate
  pub within : used ≤ length bytes
  pub crosses : Crosses old.cutting new.cutting (take used bytes) out fates
  pub waits : new.waiting ≡ old.waiting ++ out
  pub breaks : BreaksAtLast fates new.is_broken

-- All of the bytes that came crossed, or those up to the segment behind which the connection breaks.
pub record TakesAll (old new : Direction) (bytes : List ℕ) (used : ℕ) : Type 0 where
  pub takes : Takes old new bytes used
  pub all : new.is_broken ≡ false → used ≡ length bytes
  pub some : 0 < length bytes → 0 < used
