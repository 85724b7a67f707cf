use Rattle.std.proofs.Common.{drop, flat_map}
use Rattle.std.specs.Prelude.{encode_utf8_all}
use Rattle.json.specs.Print.{escape}
use Rattle.rds_text.specs.Quoted.{written}
use Rattle.uecp_text.proofs.Public.{Leads}
use Rattle.json_lines.proofs.values.put_bytes.Given as goal

-- what is left leads to the same
abbrev pub invariant-loop-byte : goal.invariant-loop-byte
invariant-loop-byte l = Leads l.fn.output l.output
    (escape (encode_utf8_all (flat_map written (drop l.byte-index l.bytes))))
    (escape (encode_utf8_all (flat_map written l.bytes)))
