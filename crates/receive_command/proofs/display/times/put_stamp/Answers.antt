use Rattle.json_lines.specs.Stamps.{IsStamp}
use Rattle.receive_command.proofs.display.times.put_stamp.Goals as goal

pub time_field-requires : goal.time_field-requires
time_field-requires g c =
    let is_stamp : IsStamp c.as_str.result.now = rw c.as_str.ensures.value c.stamp_of-stamp.ensures in is_stamp.0
