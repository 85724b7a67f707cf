use Rattle.std.proofs.Common.{sym, subst, flat_map}
use Rattle.std.specs.Prelude.{encode_utf8_all}
use Rattle.rds_text.specs.Quoted.{written}
use Rattle.uecp_text.specs.Written.{Adds}
use Rattle.phrase_tokens.specs.Tokens.{written_token}
use Rattle.phrase_tokens.specs.View.{token_of}
use Rattle.phrase_tokens.proofs.Written.{quoted_whole}
use Rattle.phrase_tokens.proofs.tokens_written.put_token.Goals as goal

pub returns-in-Quoted : goal.returns-in-Quoted
returns-in-Quoted c =
    subst (λ t. Adds c.args.output.now c.put_character-in-Quoted.new.output
    (encode_utf8_all (written_token (token_of t)))) (sym c.in-Quoted.is)
    (quoted_whole c.args.output.now c.put_character.new.output c.put_bytes.new.output
    c.put_character-in-Quoted.new.output c.in-Quoted.bytes.items c.put_character.ensures
    (subst (λ b. Adds c.put_character.new.output c.put_bytes.new.output (encode_utf8_all (flat_map written b)))
    c.as_slice-in-Quoted.ensures.value c.put_bytes.ensures) c.put_character-in-Quoted.ensures)
