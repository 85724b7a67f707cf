use Rattle.promises.proofs.Submitting.{what_is_left_of_server_lem}
use Rattle.promises.proofs.crash.what_is_left_is_a_file.Goals as goal

pub returns : goal.returns
returns g c = what_is_left_of_server_lem _ _ _ g.T.Target.step g.T.Target.taken
