use Rattle.receive_command.proofs.Telling.{timed_field}
use Rattle.receive_command.proofs.display.times.put_time_field.Goals as goal

pub returns-in-Some : goal.returns-in-Some
returns-in-Some g c =
    let stamp = c.put_stamp.ensures in
    timed_field c.args.clock c.in-Some.clock stamp.0 c.args.output.now c.put_stamp.new.output c.in-Some.is stamp.1
    stamp.2
