use Rattle.promises.proofs.Streaming.{what_is_left_lem}
use Rattle.promises.proofs.crash.what_is_left_is_a_cut.Goals as goal

pub returns : goal.returns
returns g c = what_is_left_lem g.T.Target.step g.T.Target.taken
