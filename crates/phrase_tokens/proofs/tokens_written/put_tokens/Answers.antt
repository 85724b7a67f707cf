use Rattle.std.proofs.Common.{sym, subst}
use Rattle.std.specs.Prelude.{encode_utf8_all}
use Rattle.uecp_text.specs.Written.{Adds}
use Rattle.phrase_tokens.specs.Tokens.{written_tokens}
use Rattle.phrase_tokens.specs.View.{token_of, tokens_of}
use Rattle.phrase_tokens.proofs.Written.{tokens_more}
use Rattle.phrase_tokens.proofs.tokens_written.put_tokens.Goals as goal

pub returns-in-Some : goal.returns-in-Some
returns-in-Some c =
    subst (λ ts. Adds c.args.output.now c.put_behind.new.output (encode_utf8_all (written_tokens (tokens_of ts))))
    (sym c.in-Some.ensures.cases.0)
    (tokens_more c.args.output.now c.put_token.new.output c.put_behind.new.output (token_of c.in-Some.first.now)
    (tokens_of c.in-Some.others.now) c.put_token.ensures c.put_behind.ensures)
