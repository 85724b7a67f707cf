use Rattle.device_edges.proofs.Asking.{asked_so}
use Rattle.device_edges.proofs.accepting.Accepting.tell.Goals as goal

pub returns-in-Some : goal.returns-in-Some
returns-in-Some g c =
    asked_so c.in-Some.lacks _ c.args.self.now c.asked.new.self c.self.view_is c.asked.ensures
