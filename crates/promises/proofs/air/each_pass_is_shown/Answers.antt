use Rattle.promises.proofs.EachPass.{each_pass_is_shown}
use Rattle.promises.proofs.air.each_pass_is_shown.Goals as goal

pub returns : goal.returns
returns c = each_pass_is_shown
