use Rattle.uecp_jobs.proofs.opened.encode_lent.Goals as goal

pub returns-clause-done : goal.returns-clause-done
returns-clause-done g c =
    rw (c.finish.ensures.value, ← c.new-opening.ensures) c.run_encoder_over-status.ensures.done

pub returns-clause-undescribed : goal.returns-clause-undescribed
returns-clause-undescribed g c =
    rw (c.finish.ensures.value, ← c.new-opening.ensures) c.run_encoder_over-status.ensures.undescribed

pub returns-clause-failed : goal.returns-clause-failed
returns-clause-failed g c =
    rw (c.finish.ensures.value, ← c.new-opening.ensures) c.run_encoder_over-status.ensures.failed
