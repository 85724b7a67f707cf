use Rattle.std.proofs.Common.{codes}
use Rattle.json_lines.proofs.Public.{adds_line}
use Rattle.device_serving.specs.ConnectionLines.{number_fields}
use Rattle.device_serving.proofs.connection_lines.put_opened_object.Goals as goal

pub returns : goal.returns
returns c =
    adds_line c.args.output.now c.open_line.new.output c.put_number.new.output c.close_line.new.output
    (codes "connection") (number_fields c.args.stamp.now c.args.number) c.open_line.ensures c.put_number.ensures
    c.close_line.ensures
