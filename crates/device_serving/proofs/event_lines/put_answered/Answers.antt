use Rattle.std.proofs.Common.{codes, ◌++◌}
use Rattle.json_lines.proofs.Public.{adds_line, adds_more}
use Rattle.device_serving.specs.EventLines.{time_fields, answer_fields}
use Rattle.device_serving.proofs.event_lines.put_answered.Goals as goal

pub returns : goal.returns
returns c =
    let time = time_fields c.args.stamp.now in
    let answer = answer_fields c.args.answer.now c.args.sent in
    adds_line c.args.output.now c.open_line.new.output c.put_answer_fields.new.output c.close_line.new.output
    (codes "answered") (time ++ answer) c.open_line.ensures
    (adds_more c.open_line.new.output c.put_time_field.new.output c.put_answer_fields.new.output time answer
    c.put_time_field.ensures c.put_answer_fields.ensures)
    c.close_line.ensures
