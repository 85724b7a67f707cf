use Rattle.std.proofs.Common.{◌++◌, subst}
use Rattle.json_lines.specs.Texts.{fields_text}
use Rattle.json_lines.proofs.Public.{adds_more}
use Rattle.uecp_json.specs.Findings.{message_fields}
use Rattle.uecp_json.specs.Steps.{code_fields}
use Rattle.uecp_text.specs.Written.{Adds}
use Rattle.sending.specs.Objects.{number_fields, cost_fields}
use Rattle.sending.proofs.objects.answers.put_fields.Goals as goal

pub returns : goal.returns
returns c =
    let sent = c.args.sent.now in
    let number = number_fields c.args.stamp.now c.args.number sent.0 in
    let code = code_fields c.args.code in
    let cost = cost_fields c.args.tries c.args.milliseconds in
    let message = message_fields sent.1 in
    let one = c.put_number.new.output in
    let two = c.put_code.new.output in
    let three = c.put_cost.new.output in
    let four = c.put_message.new.output in
    let first = subst (λ n. Adds c.args.output.now one (fields_text (number_fields c.args.stamp.now c.args.number n)))
    c.counter.ensures c.put_number.ensures in
    let last = subst (λ m. Adds three four (fields_text (message_fields m))) c.bytes.ensures c.put_message.ensures in
    adds_more c.args.output.now one four number (code ++ (cost ++ message)) first
    (adds_more one two four code (cost ++ message) c.put_code.ensures
    (adds_more two three four cost message c.put_cost.ensures last))
