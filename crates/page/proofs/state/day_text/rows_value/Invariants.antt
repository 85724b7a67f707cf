-- The objects so far, and those of the rows that are left, are all.
use Rattle.std.proofs.Common.{◌≡◌, ◌++◌, drop, map}
use Rattle.std.specs.Prelude.{flat_map}
use Rattle.serde_json.specs.View.{view}
use Rattle.page.specs.HistoryTexts.{told_row}
use Rattle.page.specs.StateView.{change_of}
use Rattle.page.proofs.state.day_text.rows_value.Given as goal

abbrev pub invariant-loop-place : goal.invariant-loop-place
invariant-loop-place l =
    map view l.list.items ++ flat_map (told_row l.now) (drop l.place (map change_of l.changes.rows.items))
    ≡ flat_map (told_row l.now) (map change_of l.changes.rows.items)
