use Rattle.std.proofs.Common.{codes}
use Rattle.json_lines.proofs.Public.{adds_line}
use Rattle.sending.specs.Objects.{refusal_fields}
use Rattle.sending.proofs.objects.station.put_refused.Goals as goal

pub returns : goal.returns
returns c = adds_line c.args.output.now c.open_line.new.output c.put_refusal.new.output c.close_line.new.output
    (codes "station_refused") (refusal_fields c.args.number c.args.code) c.open_line.ensures c.put_refusal.ensures
    c.close_line.ensures
