use Rattle.std.proofs.Common.{arith}
use Rattle.hex.specs.Hex.{encode_upper}
use Rattle.json_lines.proofs.Plain.{adds_quoted, plain_digits}
use Rattle.json_lines.proofs.values.put_digits.Goals as goal

pub returns : goal.returns
returns c = adds_quoted c.args.output.now c.text.new.self c.digits.new.self c.text-2.new.self
    (encode_upper c.args.bytes.now) (plain_digits c.args.bytes.now (λ k. omega (arith, c.type_inv.bytes k)))
    c.text.ensures.added c.digits.ensures.added c.text-2.ensures.added
