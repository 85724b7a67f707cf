use Rattle.std.proofs.Common.{◌≡◌, ◌+◌, ◌*◌, ◌++◌, drop, length, codes}
use Rattle.hex.specs.Hex.{encode_upper}
use Rattle.uecp_lines.proofs.reply_lines.ReplyLine.written.Given as goal

-- what is written so far, before the digits of the bytes that are left, is the whole
abbrev pub invariant-bytes : goal.invariant-bytes
invariant-bytes l = record {
  words : l.text.items ++ encode_upper (drop l.i l.bytes) ≡ codes "reply " ++ encode_upper l.bytes;
  many : length l.text.items ≡ 6 + 2 * l.i;
}
