use Rattle.std.proofs.Common.{◌++◌, codes}
use Rattle.uecp_json.specs.Elements.{place_fields}
use Rattle.uecp_json.specs.Stores.{value_fields}
use Rattle.json_lines.proofs.Public.{adds_line}
use Rattle.uecp_json.proofs.store.put_service.Goals as goal

pub returns : goal.returns
returns c = adds_line c.args.output.now c.open_line.new.output c.put_placed.new.output c.close_line.new.output
    (codes "service") (place_fields c.args.set c.args.number ++ value_fields c.args.service.now) c.open_line.ensures
    c.put_placed.ensures c.close_line.ensures
