use Rattle.live_edges.proofs.Dialling.{says_then}
use Rattle.live_edges.proofs.patient.Patient.next.Goals as goal

pub returns-then-is_none-clause-says : goal.returns-then-is_none-clause-says
returns-then-is_none-clause-says g c =
    says_then c.args.self.now c.tell_silent.new.self c.tell_given_up.new.self c.tell_silent.ensures.says
    c.tell_given_up.ensures.says
