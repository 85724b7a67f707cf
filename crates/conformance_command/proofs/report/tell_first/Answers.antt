use Rattle.conformance_command.specs.Telling.{first_line}
use Rattle.conformance_command.proofs.Told.{put_first}
use Rattle.conformance_command.proofs.report.tell_first.Goals as goal

pub returns : goal.returns
returns g c =
    let line = (first_line c.args.json c.args.cases) in
    c.tell.ensures line (put_first c.new-output.result c.put_first.new.output line c.new-output.ensures.empty
    c.put_first.ensures)
