-- The head, the body and the end, as far as they could be written.
use Rattle.page.proofs.Told.{told_none, told_head, told_all}
use Rattle.page.proofs.clients.client.Client.whole.Goals as goal

pub returns-in_err-head-clause-told : goal.returns-in_err-head-clause-told
returns-in_err-head-clause-told c = told_none _ _ _ c.in_err-head.ensures.err

pub returns-in_err-write_data-clause-told : goal.returns-in_err-write_data-clause-told
returns-in_err-write_data-clause-told c =
    told_head _ _ _ _ _ c.in_ok-head.ensures.output c.in_err-write_data.ensures.err

pub returns-clause-told : goal.returns-clause-told
returns-clause-told c =
    told_all _ _ _ _ _ _ _ _ c.in_ok-head.ensures.behind c.in_ok-write_data.ensures.counted
    c.in_ok-head.ensures.output c.in_ok-write_data.ensures.ok c.write_end.result c.write_end.ensures.ok
    c.write_end.ensures.err
