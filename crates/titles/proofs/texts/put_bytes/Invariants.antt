use Rattle.std.proofs.Common.{◌≡◌, ◌++◌, drop, flat_map}
use Rattle.std.specs.Prelude.{encode_utf8_all}
use Rattle.std.specs.String.{string_bytes}
use Rattle.rds_text.specs.Quoted.{written}
use Rattle.titles.proofs.texts.put_bytes.Given as goal

-- what is left makes the same
abbrev pub invariant-loop-byte : goal.invariant-loop-byte
invariant-loop-byte l = string_bytes l.text ++ encode_utf8_all (flat_map written (drop l.byte-index l.bytes))
    ≡ string_bytes l.fn.text ++ encode_utf8_all (flat_map written l.bytes)
