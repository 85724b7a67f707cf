use Rattle.std.proofs.Common.{inr}
use Rattle.state_jobs.proofs.files.StoredServerKeepSavedServer.save.Goals as goal

pub returns-else-lead_there-clause-failed : goal.returns-else-lead_there-clause-failed
returns-else-lead_there-clause-failed g c =
    (inr c.in-Ok.ensures.made, c.lead_there.ensures.noted c.if-lead_there.false)
