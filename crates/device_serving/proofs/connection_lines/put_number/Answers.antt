use Rattle.std.proofs.Common.{[], ◌∷◌, codes}
use Rattle.json_lines.specs.Objects.{in_decimal}
use Rattle.json_lines.proofs.Public.{adds_field, adds_more}
use Rattle.device_serving.specs.EventLines.{time_fields}
use Rattle.device_serving.proofs.connection_lines.put_number.Goals as goal

pub returns : goal.returns
returns c =
    let start = c.args.output.now in
    let one = c.put_time_field.new.output in
    let end = c.number_field.new.output in
    adds_more start one end (time_fields c.args.stamp.now) ((codes "number", in_decimal c.args.number) ∷ [])
    c.put_time_field.ensures
    (adds_field one end (codes "number") (in_decimal c.args.number) c.number_field.ensures)
