use Rattle.std.proofs.Common.{codes, ◌∷◌, []}
use Rattle.json_lines.specs.Objects.{in_decimal, said_fields}
use Rattle.json_lines.proofs.Public.{adds_field, adds_more}
use Rattle.uecp_json.proofs.store.put_content.Goals as goal

pub returns : goal.returns
returns c =
    let middle = c.number_field.new.output in
    let count = in_decimal c.args.transmissions in
    let first = adds_field c.args.output.now middle (codes "transmissions") count
    (rw c.from.ensures at c.number_field.ensures) in
    adds_more c.args.output.now middle c.said_fields.new.output ((codes "transmissions", count) ∷ [])
    (said_fields (codes "bytes") c.args.bytes.now) first c.said_fields.ensures
