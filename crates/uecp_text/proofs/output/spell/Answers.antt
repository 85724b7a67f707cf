use Rattle.std.proofs.Common.{◌≡◌, map, ap, ◌∙◌, rules}
use Rattle.std.specs.Char.{to_ascii_uppercase}
use Rattle.hex.specs.Hex.{encode_lower}
use Rattle.uecp_text.proofs.UpperCase.{upper_case}
use Rattle.uecp_text.proofs.output.spell.Goals as goal

pub returns-then-is_ok : goal.returns-then-is_ok
returns-then-is_ok c =
    let bytes = c.args.bytes.now in
    let lower : c.encode_to_slice.new.output ≡ encode_lower bytes = search rules in
    c.make_ascii_uppercase.ensures.after ∙ ap (map to_ascii_uppercase) lower ∙ upper_case bytes
