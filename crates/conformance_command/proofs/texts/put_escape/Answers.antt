use Rattle.std.proofs.Common.{◌≡◌, ◌<◌, [], ◌∷◌, ap, arith, subst, ◌∙◌}
use Rattle.std.proofs.lemmas.Str.{encode_ascii}
use Rattle.std.specs.Char.{encode_utf8}
use Rattle.json.specs.Print.{escape}
use Rattle.uecp_text.specs.Written.{Adds}
use Rattle.conformance_command.proofs.texts.put_escape.Goals as goal

pub returns : goal.returns
returns c =
    let ascii : c.args.byte < 0x80 = omega (arith, c.requires.1) in
    let same : encode_utf8 c.from.result ≡ c.args.byte ∷ [] =
    ap encode_utf8 c.from.ensures ∙ encode_ascii c.args.byte ascii in
    subst (λ text. Adds c.args.output.now c.put_character.new.output (escape text)) same c.put_character.ensures
