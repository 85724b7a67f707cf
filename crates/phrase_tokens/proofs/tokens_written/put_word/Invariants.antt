use Rattle.std.proofs.Common.{drop}
use Rattle.std.specs.Prelude.{encode_utf8_all}
use Rattle.uecp_text.proofs.Public.{Leads}
use Rattle.phrase_tokens.proofs.tokens_written.put_word.Given as goal

-- what is left leads to the same
abbrev pub invariant-loop-character : goal.invariant-loop-character
invariant-loop-character l = Leads l.fn.output l.output (encode_utf8_all (drop l.character-index l.characters))
    (encode_utf8_all l.characters)
