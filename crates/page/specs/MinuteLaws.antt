-- Laws of how many messages were told in a minute.
use Rattle.std.specs.Prelude.{◌≡◌, ◌≤◌, ◌<◌, ◌-◌, ◌^◌, ◌==◌, ◌&&◌, ℕ, nat_lt, List, [], ◌∷◌, length, filter, All}
use Rattle.std.specs.Prelude.{slice_index, if◌then◌else◌}
use Rattle.page.specs.Counts.{is_told}
use Rattle.page.specs.Minutes.{minute_of, last_hour}
use Rattle.page.specs.ControlLine.{Arrived, new_line, line_behind}

-- The page's clock never goes back.
abbrev pub IsInOrder : List Arrived → Type 0
IsInOrder [] = Unit {0}
IsInOrder (d ∷ ds) = All (λ e. d.came ≤ e.came) ds × IsInOrder ds

-- Of objects those that count as messages and came in this minute.
abbrev pub told_in_minute : (minute : ℕ) → List Arrived → List Arrived
told_in_minute minute ds = filter (λ d. is_told d.object && minute_of d.came == minute) ds

-- Law: what is told of a minute of the last hour is how many objects count as messages and came in it, whenever one
-- asks; the minute that runs is told last, and of one before the clock began it is 0.
abbrev pub MinuteExactly : Type 0
MinuteExactly = (ds : List Arrived) (name : List ℕ) (now ago : ℕ) → IsInOrder ds → All (λ d. d.came ≤ now) ds
    → length ds < 2 ^ 64 → ago < 60
    → slice_index (last_hour (minute_of now) (line_behind ds (new_line name)).minutes) (59 - ago)
    ≡ (if nat_lt (minute_of now) ago then 0 else length (told_in_minute (minute_of now - ago) ds))
