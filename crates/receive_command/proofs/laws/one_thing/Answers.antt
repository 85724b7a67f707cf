use Rattle.receive_command.proofs.OneThing.{one_thing}
use Rattle.receive_command.proofs.laws.one_thing.Goals as goal

pub returns : goal.returns
returns c = one_thing
