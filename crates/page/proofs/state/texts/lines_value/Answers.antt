use Rattle.std.proofs.Common.{◌≤◌, ◌<◌, length, map, ◌∙◌, ap, rules}
use Rattle.std.proofs.lemmas.List.{take_all}
use Rattle.serde_json.specs.Data.{array}
use Rattle.serde_json.specs.View.{view, items_of}
use Rattle.serde_json.proofs.Views.{view-Array}
use Rattle.page.specs.Texts.{line_data}
use Rattle.page.specs.StateView.{line_of}
use Rattle.page.proofs.Growing.{one_further}
use Rattle.page.proofs.Whole.{each_line}
use Rattle.page.proofs.state.texts.lines_value.Goals as goal

pub loop-line-preserved : goal.loop-line-preserved
loop-line-preserved c =
    let within : c.loop-line.line-index < length c.args.lines.now = search rules in
    one_further view (λ r. line_data c.args.now (line_of r)) c.loop-line.line-index c.args.lines.now
    c.line-item.result c.loop-line.list.items c.push.new.self.items c.in_ok-line_value.field-0 within c.line-item.is
    c.loop-line.invariant c.in_ok-push.ensures.items c.in_ok-line_value.ensures

pub returns : goal.returns
returns c =
    let end : length c.args.lines.now ≤ c.loop-line.line-index = search rules in
    view-Array c.loop-line.list ∙ ap array (ap items_of
    (c.loop-line.invariant ∙ ap (map (λ r. line_data c.args.now (line_of r)))
    (take_all c.loop-line.line-index c.args.lines.now end))
    ∙ each_line c.args.now line_of c.args.lines.now)
