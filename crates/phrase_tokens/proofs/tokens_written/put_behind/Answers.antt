use Rattle.std.proofs.Common.{◌≡◌, ◌∷◌, ◌+◌, sym, ap, ◌∙◌, subst, drop}
use Rattle.std.proofs.lemmas.List.{drop_more}
use Rattle.std.specs.Prelude.{encode_utf8_all}
use Rattle.uecp_text.proofs.Public.{Leads}
use Rattle.phrase_tokens.specs.Tokens.{written_behind}
use Rattle.phrase_tokens.specs.View.{token_of, tokens_of}
use Rattle.phrase_tokens.proofs.Written.{behind_more}
use Rattle.phrase_tokens.proofs.tokens_written.put_behind.Goals as goal

pub loop-token-preserved : goal.loop-token-preserved
loop-token-preserved c =
    let all = c.args.tokens.now in
    let i = c.loop-token.token-index in
    let here : drop i all ≡ c.token-item.result ∷ drop (i + 1) all =
    drop_more all i c.token-item.result c.loop-token-test.true
    ∙ ap (λ t. t ∷ drop (i + 1) all) (sym c.token-item.is) in
    behind_more c.args.output.now c.loop-token.output c.put_next.new.output (token_of c.token-item.result)
    (tokens_of (drop (i + 1) all)) (tokens_of all)
    (subst (λ ts. Leads c.args.output.now c.loop-token.output (encode_utf8_all (written_behind (tokens_of ts)))
    (encode_utf8_all (written_behind (tokens_of all)))) here c.loop-token.invariant)
    c.put_next.ensures
