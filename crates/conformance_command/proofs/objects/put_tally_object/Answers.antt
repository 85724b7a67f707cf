use Rattle.std.proofs.Common.{codes}
use Rattle.json_lines.proofs.Public.{adds_line}
use Rattle.conformance_command.specs.Telling.{tally_fields}
use Rattle.conformance_command.proofs.objects.put_tally_object.Goals as goal

pub returns : goal.returns
returns c = adds_line c.args.output.now c.open_line.new.output c.put_tally.new.output c.close_line.new.output
    (codes "conformance") (tally_fields c.args.cases c.args.tally) c.open_line.ensures c.put_tally.ensures
    c.close_line.ensures
