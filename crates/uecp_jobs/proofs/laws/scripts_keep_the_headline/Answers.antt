use Rattle.uecp_jobs.proofs.Headlines.{scripts_keep_headline_lem}
use Rattle.uecp_jobs.proofs.laws.scripts_keep_the_headline.Goals as goal

pub returns : goal.returns
returns c = scripts_keep_headline_lem
