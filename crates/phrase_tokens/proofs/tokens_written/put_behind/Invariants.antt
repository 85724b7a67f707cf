use Rattle.std.proofs.Common.{drop}
use Rattle.std.specs.Prelude.{encode_utf8_all}
use Rattle.phrase_tokens.specs.Tokens.{written_behind}
use Rattle.phrase_tokens.specs.View.{tokens_of}
use Rattle.uecp_text.proofs.Public.{Leads}
use Rattle.phrase_tokens.proofs.tokens_written.put_behind.Given as goal

-- what is left leads to the same
abbrev pub invariant-loop-token : goal.invariant-loop-token
invariant-loop-token l = Leads l.fn.output l.output
    (encode_utf8_all (written_behind (tokens_of (drop l.token-index l.tokens))))
    (encode_utf8_all (written_behind (tokens_of l.tokens)))
