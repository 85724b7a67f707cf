use Rattle.std.proofs.Common.{codes}
use Rattle.json_lines.proofs.Public.{adds_line}
use Rattle.send_commands.specs.Ended.{ended_fields}
use Rattle.send_commands.proofs.ended.put_ended.Goals as goal

pub returns : goal.returns
returns c = adds_line c.args.output.now c.open_line.new.output c.put_fields.new.output c.close_line.new.output
    (codes "ended") (ended_fields c.args.stamp.now c.args.status) c.open_line.ensures c.put_fields.ensures
    c.close_line.ensures
