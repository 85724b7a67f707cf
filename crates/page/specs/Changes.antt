-- The history of a control line: what changed on the air as it is shown, and when (profile).
use Rattle.std.specs.Prelude.{ℕ, ◌-◌, Bool, not, ◌&&◌, ◌||◌, List, [], ◌∷◌, ◌++◌, length, drop, flat_map, nat_lt}
use Rattle.std.specs.Prelude.{if◌then◌else◌}
use Rattle.std.specs.List.{list_any}
use Rattle.page.specs.Seen.{Seen, unseen, is_of, is_same, is_nothing}

-- A row: what is shown of a service from then on, and when the object came that made it so, by the page's clock.
pub record Change : Type 0 where
  pub came : ℕ
  pub seen : Seen

abbrev pub has_it : (set service : ℕ) → List Seen → Bool
has_it set service ss = list_any (is_of set service) ss

-- The same was shown of it before: so it stands among these; or it is none of these, and nothing is shown of it now.
abbrev pub was_so : (before : List Seen) → Seen → Bool
was_so before s = list_any (is_same s) before || is_nothing s && not (has_it s.set s.service before)

-- A row for a service that is shown, where something else was shown of it before.
abbrev pub changed : (came : ℕ) → (before : List Seen) → Seen → List Change
changed came before s = if was_so before s then [] else record { came = came; seen = s } ∷ []

-- A row with nothing for one that is shown no more, where something was shown of it.
abbrev pub ended : (came : ℕ) → (behind : List Seen) → Seen → List Change
ended came behind s =
    if has_it s.set s.service behind || is_nothing s then []
    else record { came = came; seen = unseen s.set s.service } ∷ []

-- The rows of an object that came then: of what is shown behind it, and was shown before.
abbrev pub changes : (came : ℕ) → (before behind : List Seen) → List Change
changes came before behind = flat_map (changed came before) behind ++ flat_map (ended came behind) before

-- What is kept of rows.
abbrev pub last_1000 : List Change → List Change
last_1000 cs = drop (length cs - 1000) cs

-- The history behind an object.
unfoldable pub history_after : (came : ℕ) → (before behind : List Seen) → List Change → List Change
history_after came before behind cs = last_1000 (cs ++ changes came before behind)

-- A day, in milliseconds; what came less than a day ago is told.
abbrev pub is_recent : (now : ℕ) → Change → Bool
is_recent now c = nat_lt (now - c.came) 86400000
