-- Who waits for the place that one connection has, and who has it next (profile).
use Rattle.std.specs.Prelude.{◌≡◌, ℕ, ◌-◌, Bool, false, not, ◌&&◌, ◌||◌, leb, ltb, if◌then◌else◌}
use Rattle.std.specs.Prelude.{List, [], ◌∷◌, ◌++◌, length, remove, Option, Some, None, is_some, unwrap_or}
use Rattle.std.specs.List.{position_from}
use Rattle.device_edges.specs.declared.lobby.Guest.{Guest}

-- One who was accepted now: it has brought no frame yet.
abbrev pub arrived : {G : Type 0} → G → (now : ℕ) → Guest G
arrived line now = record { line = line; since = now; is_ready = false }

-- The place of the first of those who wait that has brought a whole good frame; and of the first that has not.
abbrev pub ready_place : {G : Type 0} → List (Guest G) → Option ℕ
ready_place guests = position_from (λ g. g.is_ready) 0 guests

abbrev pub silent_place : {G : Type 0} → List (Guest G) → Option ℕ
silent_place guests = position_from (λ g. not g.is_ready) 0 guests

-- How many may wait.
abbrev pub guests_most : ℕ
guests_most = 8

-- One more may wait: fewer than eight do, or one of them goes for it.
abbrev pub has_place : {G : Type 0} → List (Guest G) → Bool
has_place guests = ltb (length guests) guests_most || is_some (silent_place guests)

-- Those at a place wait no longer, the others do as they did.
abbrev pub without : {G : Type 0} → (place : Option ℕ) → List (Guest G) → List (Guest G)
without None guests = guests
without (Some place) guests = remove guests place

-- Who waits still where one more comes: all; or where eight do, all but the first that has brought no frame.
abbrev pub with_place : {G : Type 0} → List (Guest G) → List (Guest G)
with_place guests =
    if ltb (length guests) guests_most then guests else without (silent_place guests) guests

-- Who has the place next: the first that has brought a frame; where none has, the first of all.
abbrev pub next_place : {G : Type 0} → List (Guest G) → Option ℕ
next_place [] = None
next_place (g ∷ guests) = Some (unwrap_or (ready_place (g ∷ guests)) 0)

-- The one at this place was taken, with its connection as it was accepted, and the others stay, in their order; or
-- there is none.
abbrev pub TakesFrom : {G : Type 0} → (place : Option ℕ) → (guests : List (Guest G)) → Option G
    → (guests' : List (Guest G)) → Type 0
TakesFrom None guests line guests' = (line ≡ None) × (guests' ≡ guests)
TakesFrom {G} (Some place) guests line guests' =
    (before : List (Guest G)) × (guest : Guest G) × (after : List (Guest G)) × (guests ≡ before ++ guest ∷ after)
    × (length before ≡ place) × (line ≡ Some guest.line) × (guests' ≡ before ++ after)

-- It has waited for five seconds without a frame.
abbrev pub is_late : {G : Type 0} → Guest G → (now : ℕ) → Bool
is_late guest now = not guest.is_ready && leb 5000 (now - guest.since)
