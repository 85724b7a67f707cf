-- The numbers so far, and those of the minutes that are left, are all.
use Rattle.std.proofs.Common.{◌≡◌, ◌-◌, ◌++◌, map}
use Rattle.serde_json.specs.View.{view}
use Rattle.page.specs.Minutes.{counts_until, last_hour}
use Rattle.page.specs.StateView.{minutes_of}
use Rattle.page.proofs.Minutes.{told_as}
use Rattle.page.proofs.state.texts.minutes_value.Given as goal

abbrev pub invariant-loop-place : goal.invariant-loop-place
invariant-loop-place l =
    map view l.list.items ++ map told_as (counts_until l.newest (60 - l.place) (minutes_of l.minutes))
    ≡ map told_as (last_hour l.newest (minutes_of l.minutes))
