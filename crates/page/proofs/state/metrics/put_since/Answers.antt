use Rattle.std.proofs.Common.{◌++◌, ◌∙◌, ap, sym}
use Rattle.std.proofs.lemmas.Result.{on_ok_weaker}
use Rattle.page.specs.Texts.{since}
use Rattle.page.proofs.state.metrics.put_since.Goals as goal

pub returns-in-Some : goal.returns-in-Some
returns-in-Some c =
    on_ok_weaker c.put_value.result (λ added.
    added ∙ sym (ap (λ seconds. c.args.text.now.items ++ since seconds) c.in-Some.is)) c.put_value.ensures
