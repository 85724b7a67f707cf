use Rattle.std.proofs.Common.{◌++◌, ◌∙◌, ap}
use Rattle.page.specs.Texts.{stale_texts}
use Rattle.page.specs.StateView.{state_of}
use Rattle.page.proofs.state.silence.stale_text.Goals as goal

pub returns : goal.returns
returns c =
    c.in_ok-put_each.ensures ∙ ap (λ ls. c.new-text.result.items ++ stale_texts c.args.moment ls) c.lines.ensures
    ∙ ap (λ t. t ++ stale_texts c.args.moment (state_of c.args.page.now).lines) c.new-text.ensures.items
