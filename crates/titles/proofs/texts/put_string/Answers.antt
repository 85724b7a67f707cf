use Rattle.std.proofs.Common.{◌≡◌, ◌++◌, ◌∙◌, ap, flat_map}
use Rattle.std.specs.Prelude.{encode_utf8_all}
use Rattle.std.specs.Char.{encode_utf8}
use Rattle.std.specs.String.{string_bytes}
use Rattle.rds_text.specs.Quoted.{written}
use Rattle.titles.proofs.Spelling.{string_whole}
use Rattle.titles.proofs.texts.put_string.Goals as goal

pub returns : goal.returns
returns c =
    let quote = encode_utf8 0x22 in
    let inner = encode_utf8_all (flat_map written c.args.bytes.now) in
    let one : string_bytes c.push.new.self ≡ string_bytes c.args.text.now ++ quote = c.in_ok-push.ensures.bytes in
    let two : string_bytes c.put_bytes.new.text ≡ string_bytes c.push.new.self ++ inner = c.in_ok-put_bytes.ensures in
    let three : string_bytes c.push-2.new.self ≡ string_bytes c.put_bytes.new.text ++ quote =
    c.in_ok-push-2.ensures.bytes in
    three ∙ ap (λ k. k ++ quote) (two ∙ ap (λ k. k ++ inner) one)
    ∙ string_whole (string_bytes c.args.text.now) c.args.bytes.now
