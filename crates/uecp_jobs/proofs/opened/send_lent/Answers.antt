use Rattle.uecp_jobs.proofs.opened.send_lent.Goals as goal

pub returns-clause-sent : goal.returns-clause-sent
returns-clause-sent g c =
    rw (c.finish.ensures.value, ← c.new-opening.ensures) c.run_server_over-status.ensures.sent

pub returns-clause-sent_before : goal.returns-clause-sent_before
returns-clause-sent_before g c =
    rw (c.finish.ensures.value, ← c.new-opening.ensures) c.run_server_over-status.ensures.sent_before

pub returns-clause-undescribed : goal.returns-clause-undescribed
returns-clause-undescribed g c =
    rw (c.finish.ensures.value, ← c.new-opening.ensures) c.run_server_over-status.ensures.undescribed

pub returns-clause-not_sent : goal.returns-clause-not_sent
returns-clause-not_sent g c =
    rw (c.finish.ensures.value, ← c.new-opening.ensures) c.run_server_over-status.ensures.not_sent
