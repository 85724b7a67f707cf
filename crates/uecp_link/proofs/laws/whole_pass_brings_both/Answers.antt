use Rattle.uecp_link.proofs.WholePass.{whole_pass_brings_both_lem}
use Rattle.uecp_link.proofs.laws.whole_pass_brings_both.Goals as goal

pub returns : goal.returns
returns g c = whole_pass_brings_both_lem g.T.Target.step
