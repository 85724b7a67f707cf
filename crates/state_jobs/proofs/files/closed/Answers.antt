use Rattle.std.proofs.Common.{rules}
use Rattle.state_jobs.proofs.files.closed.Goals as goal

pub returns-in-Ok : goal.returns-in-Ok
returns-in-Ok g c = (
  record { files = c.in-Ok._files; alone = c.in-Ok.ensures },
  search rules,
  (c.lead.new.self, c.lead.ensures c.if-not-lead.false),
)
