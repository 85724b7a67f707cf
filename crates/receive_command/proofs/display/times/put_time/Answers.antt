use Rattle.std.proofs.Common.{sym, subst}
use Rattle.json_lines.specs.Stamps.{IsStamp}
use Rattle.receive_command.proofs.Telling.{timed_line}
use Rattle.receive_command.proofs.display.times.put_time.Goals as goal

pub returns-in-Some : goal.returns-in-Some
returns-in-Some g c =
    let is_stamp = subst IsStamp (sym c.as_str.ensures.value) c.stamp_of-stamp.ensures in
    timed_line c.args.clock c.in-Some.clock c.args.region c.as_str.result.now c.args.output.now c.text.new.self
    c.text-in-Some.new.self c.end.new.self c.in-Some.is is_stamp c.text.ensures.added c.text-in-Some.ensures.added
    c.end.ensures.added
