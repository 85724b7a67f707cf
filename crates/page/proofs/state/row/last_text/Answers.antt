use Rattle.std.proofs.Common.{◌≡◌, Some, option_map, ◌∙◌, ap, sym}
use Rattle.std.specs.Prelude.{codes, option_and_then}
use Rattle.std.proofs.lemmas.Result.{IfOk-weaker}
use Rattle.serde_json.specs.View.{view, items_view}
use Rattle.page.specs.Members.{text_at}
use Rattle.page.specs.Shown.{last_item}
use Rattle.page.proofs.Lasts.{last_is}
use Rattle.page.proofs.state.row.last_text.Goals as goal

pub returns-in-Some : goal.returns-in-Some
returns-in-Some c =
    let found : last_item (items_view c.args.texts.now) ≡ Some (view c.in-Some.text.now) =
    last_is c.args.texts.now ∙ ap (option_map view) (sym c.in-Some.ensures.value) in
    IfOk-weaker c.text_at.result _ _ (λ t h. h ∙ sym (ap (option_and_then (text_at (codes "text"))) found))
    c.text_at.ensures
