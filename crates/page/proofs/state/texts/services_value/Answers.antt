use Rattle.std.proofs.Common.{◌≤◌, length, map, ◌∙◌, ap, rules}
use Rattle.std.proofs.lemmas.List.{take_all}
use Rattle.serde_json.specs.Data.{array}
use Rattle.serde_json.specs.View.{items_of}
use Rattle.serde_json.proofs.Views.{view-Array}
use Rattle.page.specs.Texts.{service_data}
use Rattle.page.specs.StateView.{service_of}
use Rattle.page.proofs.Whole.{each_service}
use Rattle.page.proofs.state.texts.services_value.Goals as goal

pub returns : goal.returns
returns c =
    let end : length c.args.rows.now ≤ c.loop-row.row-index = search rules in
    view-Array c.loop-row.list ∙ ap array (ap items_of
    (c.loop-row.invariant ∙ ap (map (λ r. service_data c.args.now c.args.announced.now (service_of r)))
    (take_all c.loop-row.row-index c.args.rows.now end))
    ∙ each_service c.args.now c.args.announced.now service_of c.args.rows.now)
