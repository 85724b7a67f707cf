use Rattle.std.proofs.Common.{◌≡◌, false, ◌∙◌, ap}
use Rattle.std.proofs.lemmas.Result.{IfOk-weaker}
use Rattle.serde_json.specs.View.{view}
use Rattle.serde_json.specs.Written.{compact_text, has_float}
use Rattle.page.specs.StateView.{state_of}
use Rattle.page.proofs.Whole.{no_float_told}
use Rattle.page.proofs.state.day_text.history_text.Goals as goal

pub returns : goal.returns
returns c =
    let whole : has_float (view c.in_ok-value.value) ≡ false =
    ap has_float c.in_ok-value.ensures ∙ no_float_told c.args.now (state_of c.args.page.now) in
    IfOk-weaker c.to_string.result _ _ (λ t h. h whole ∙ ap compact_text c.in_ok-value.ensures) c.to_string.ensures.text
