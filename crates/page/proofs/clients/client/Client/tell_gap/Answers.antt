use Rattle.std.proofs.Common.{◌∙◌, sym}
use Rattle.std.proofs.lemmas.Result.{on_ok_weaker}
use Rattle.page.proofs.Told.{told_gap}
use Rattle.page.proofs.clients.client.Client.tell_gap.Goals as goal

pub returns-then-is_gap-clause-output : goal.returns-then-is_gap-clause-output
returns-then-is_gap-clause-output c =
    on_ok_weaker c.write_data.result (λ wrote.
    told_gap _ _ _ _ _ (sym c.is_gap.ensures ∙ c.if-is_gap.true) c.as_bytes.ensures.value wrote)
    c.write_data.ensures.ok
