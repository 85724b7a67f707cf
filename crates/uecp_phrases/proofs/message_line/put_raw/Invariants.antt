use Rattle.std.proofs.Common.{drop, map}
use Rattle.std.specs.Prelude.{encode_utf8_all}
use Rattle.uecp_text.proofs.Public.{Leads}
use Rattle.phrase_tokens.specs.Tokens.{written_behind}
use Rattle.uecp_phrases.specs.Written.{byte_token}
use Rattle.uecp_phrases.proofs.message_line.put_raw.Given as goal

-- what is left leads to the same
abbrev pub invariant-loop-byte : goal.invariant-loop-byte
invariant-loop-byte l = Leads l.fn.output l.output
    (encode_utf8_all (written_behind (map byte_token (drop l.byte-index l.bytes))))
    (encode_utf8_all (written_behind (map byte_token l.bytes)))
