use Rattle.std.proofs.Common.{◌≤◌, length, map, ◌∙◌, ap, rules}
use Rattle.std.proofs.lemmas.List.{take_all}
use Rattle.serde_json.specs.Data.{array}
use Rattle.serde_json.specs.View.{items_of}
use Rattle.serde_json.proofs.Views.{view-Array}
use Rattle.page.specs.HistoryTexts.{line_history}
use Rattle.page.specs.StateView.{line_of}
use Rattle.page.proofs.Whole.{each_history}
use Rattle.page.proofs.state.day_text.lines_value.Goals as goal

pub returns : goal.returns
returns c =
    let end : length c.args.lines.now ≤ c.loop-line.line-index = search rules in
    view-Array c.loop-line.list ∙ ap array (ap items_of
    (c.loop-line.invariant ∙ ap (map (λ r. line_history c.args.now (line_of r)))
    (take_all c.loop-line.line-index c.args.lines.now end))
    ∙ each_history c.args.now line_of c.args.lines.now)
