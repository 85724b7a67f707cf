use Rattle.std.proofs.Common.{codes, ◌++◌}
use Rattle.json_lines.proofs.Public.{adds_line, adds_more}
use Rattle.device_serving.specs.ConnectionLines.{number_fields, ended_fields}
use Rattle.device_serving.proofs.connection_lines.put_ended_object.Goals as goal

pub returns : goal.returns
returns c =
    let number = number_fields c.args.stamp.now c.args.number in
    let ended = ended_fields c.args.ended in
    adds_line c.args.output.now c.open_line.new.output c.put_fields.new.output c.close_line.new.output
    (codes "connection_end") (number ++ ended) c.open_line.ensures
    (adds_more c.open_line.new.output c.put_number.new.output c.put_fields.new.output number ended
    c.put_number.ensures c.put_fields.ensures)
    c.close_line.ensures
