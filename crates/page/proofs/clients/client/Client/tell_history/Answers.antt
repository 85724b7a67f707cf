use Rattle.std.proofs.Common.{◌∙◌, inl}
use Rattle.page.proofs.Told.{with_body}
use Rattle.page.proofs.clients.client.Client.tell_history.Goals as goal

pub returns-in-Ok-clause-told : goal.returns-in-Ok-clause-told
returns-in-Ok-clause-told c =
    inl (with_body _ _ _ _ _ _ c.whole.ensures.told (c.as_bytes.ensures.value ∙ c.in-Ok.ensures))
