use Rattle.std.proofs.Common.{◌≤◌, ◌<◌, length, map, ◌∙◌, ap, rules, arith}
use Rattle.serde_json.specs.Data.{array}
use Rattle.serde_json.specs.View.{view, items_of}
use Rattle.serde_json.proofs.Views.{view-Array}
use Rattle.page.specs.HistoryTexts.{told_row}
use Rattle.page.specs.StateView.{change_of}
use Rattle.page.proofs.Growing.{grown, grown_all}
use Rattle.page.proofs.state.day_text.rows_value.Goals as goal

pub loop-place-preserved : goal.loop-place-preserved
loop-place-preserved c =
    let rows = c.args.changes.now.rows.items in
    let within : c.loop-place.place < length rows = search (rules, arith) in
    grown change_of (told_row c.args.now) c.loop-place.place rows c.index.result.now
    (map view c.loop-place.list.items) (map view c.put_told.new.list.items) _ within c.index.ensures
    c.loop-place.invariant c.in_ok-put_told.ensures

pub returns : goal.returns
returns c =
    let rows = c.args.changes.now.rows.items in
    let end : length rows ≤ c.loop-place.place = search (rules, arith) in
    view-Array c.loop-place.list ∙ ap array (ap items_of
    (grown_all change_of (told_row c.args.now) c.loop-place.place rows (map view c.loop-place.list.items) _ end
    c.loop-place.invariant))
