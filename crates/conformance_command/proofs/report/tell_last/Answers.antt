use Rattle.conformance_command.specs.Telling.{last_line}
use Rattle.conformance_command.proofs.Told.{put_first}
use Rattle.conformance_command.proofs.report.tell_last.Goals as goal

pub returns : goal.returns
returns g c =
    let line = (last_line c.args.json c.args.cases c.args.tally) in
    c.tell.ensures line (put_first c.new-output.result c.put_last.new.output line c.new-output.ensures.empty
    c.put_last.ensures)
