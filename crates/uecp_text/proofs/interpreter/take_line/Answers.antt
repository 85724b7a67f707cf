use Rattle.std.proofs.Common.{sym, ap, ◌∙◌, inr, option_copied}
use Rattle.uecp_text.specs.Input.{said}
use Rattle.uecp_text.proofs.Runs.{ended_one, failed_one}
use Rattle.uecp_text.proofs.interpreter.take_line.Goals as goal

pub returns-in-Ok-Ends : goal.returns-in-Ok-Ends
returns-in-Ok-Ends g c =
    inr (ended_one g.I.Interpreter.meaning c.args.interpreter.now c.take.new.self c.args.number
    (said c.args.line.now) c.in-Some.text.now c.in-Ok-Ends.field-0 c.args.lines.now c.take.new.output
    (sym c.text_of.ensures ∙ ap option_copied c.in-Some.is) c.in-Ok-Ends.field-0-is c.in-Ok-Ends.ensures)

pub returns-in-Err : goal.returns-in-Err
returns-in-Err g c =
    failed_one g.I.Interpreter.meaning c.args.interpreter.now c.take.new.self c.args.number (said c.args.line.now)
    c.in-Some.text.now c.in-Err.fault c.at.result c.args.lines.now c.take.new.output
    (sym c.text_of.ensures ∙ ap option_copied c.in-Some.is) c.at.ensures c.in-Err.ensures
