use Rattle.conformance_command.specs.Telling.{case_lines}
use Rattle.conformance_command.proofs.Told.{put_first}
use Rattle.conformance_command.proofs.report.tell_case.Goals as goal

pub returns-in-Ok : goal.returns-in-Ok
returns-in-Ok g c =
    let o = c.args.outcome.now in
    let lines = (case_lines c.args.way.now c.args.number c.args.case.now o.went o.left o.came.items) in
    c.tell.ensures lines (put_first c.new-output.result c.put_lines.new.output lines c.new-output.ensures.empty
    c.in-Ok.ensures)
