use Rattle.std.proofs.Common.{◌≡◌, ◌∷◌, [], ◌+◌, get_or, subst, drop, map}
use Rattle.std.proofs.lemmas.List.{drop_more}
use Rattle.std.specs.Prelude.{encode_utf8_all}
use Rattle.uecp_text.specs.Written.{Adds}
use Rattle.uecp_text.proofs.Public.{Leads}
use Rattle.phrase_tokens.specs.Tokens.{written_behind}
use Rattle.uecp_phrases.specs.Written.{byte_token}
use Rattle.uecp_phrases.proofs.WritingLines.{raw_more}
use Rattle.uecp_phrases.proofs.message_line.put_raw.Goals as goal

pub loop-byte-preserved : goal.loop-byte-preserved
loop-byte-preserved c =
    let all = c.args.bytes.now in
    let i = c.loop-byte.byte-index in
    let here : drop i all ≡ get_or all i 0 ∷ drop (i + 1) all = drop_more all i 0 c.loop-byte-test.true in
    raw_more c.args.output.now c.loop-byte.output c.put_behind.new.output (get_or all i 0) (drop (i + 1) all) all
    (subst (λ bs. Leads c.args.output.now c.loop-byte.output (encode_utf8_all (written_behind (map byte_token bs)))
    (encode_utf8_all (written_behind (map byte_token all)))) here c.loop-byte.invariant)
    (subst (λ t. Adds c.loop-byte.output c.put_behind.new.output (encode_utf8_all (written_behind (t ∷ []))))
    c.raw_token.ensures c.put_behind.ensures)
