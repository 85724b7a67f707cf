use Rattle.std.proofs.Common.{inr}
use Rattle.device_serving.proofs.run.serve_next.Goals as goal

pub returns-in-Some : goal.returns-in-Some
returns-in-Some g c =
    let i = c.in-Some in
    record {
      serves = inr (record {
        ended = i.ended;
        told = c.serve_connection_with.new.listener;
        serves = i.ensures.served;
        keeps = record { settled = i.ensures.settled; clean = i.ensures.clean };
        tells = c.tell_ended.ensures;
        goes = c.went_after.ensures;
      });
    }
