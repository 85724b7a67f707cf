use Rattle.std.proofs.Common.{◌++◌, codes}
use Rattle.json_lines.proofs.Public.{adds_line}
use Rattle.uecp_json.specs.Findings.{message_fields}
use Rattle.uecp_json.specs.Steps.{code_fields}
use Rattle.sending.specs.Objects.{number_fields, cost_fields}
use Rattle.sending.proofs.objects.answers.put_answer.Goals as goal

pub returns : goal.returns
returns c =
    let sent = c.args.sent.now in
    adds_line c.args.output.now c.open_line.new.output c.put_fields.new.output c.close_line.new.output (codes "answer")
    (number_fields c.args.stamp.now c.args.number sent.0
    ++ (code_fields c.args.code ++ (cost_fields c.args.tries c.args.milliseconds ++ message_fields sent.1)))
    c.open_line.ensures c.put_fields.ensures c.close_line.ensures
