use Rattle.conformance_command.specs.Telling.{bail_line}
use Rattle.conformance_command.proofs.Told.{put_first}
use Rattle.conformance_command.proofs.report.tell_bail.Goals as goal

pub returns : goal.returns
returns g c =
    let line = (bail_line c.args.json) in
    c.tell.ensures line (put_first c.new-output.result c.put_bail.new.output line c.new-output.ensures.empty
    c.put_bail.ensures)
