use Rattle.page.proofs.Told.{with_reason}
use Rattle.page.proofs.clients.client.Client.refuse.Goals as goal

pub returns-clause-told : goal.returns-clause-told
returns-clause-told c = with_reason _ _ _ _ _ _ _ c.whole.ensures.told c.reason_of.ensures
