use Rattle.std.proofs.Common.{drop}
use Rattle.std.specs.Prelude.{encode_utf8_all}
use Rattle.json.specs.Print.{escape}
use Rattle.rds_text.specs.Quoted.{written}
use Rattle.uecp_text.proofs.Public.{Leads}
use Rattle.json_lines.proofs.values.put_byte.Given as goal

-- what is left leads to the same
abbrev pub invariant-loop-character : goal.invariant-loop-character
invariant-loop-character l = Leads l.fn.output l.output
    (escape (encode_utf8_all (drop l.character-index (written l.byte)))) (escape (encode_utf8_all (written l.byte)))
