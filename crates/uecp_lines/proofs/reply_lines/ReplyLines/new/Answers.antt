use Rattle.std.proofs.Common.{rules, arith}
use Rattle.uecp_lines.proofs.ReplyDigits.{all_unwritten_fit}
use Rattle.uecp_lines.proofs.reply_lines.ReplyLines.new.Goals as goal

pub invariant_of-result : goal.invariant_of-result
invariant_of-result c = record {
  many = omega (arith, c.loop-counter.invariant.many);
  each = λ counter. all_unwritten_fit counter _ counter c.loop-counter.invariant.unwritten;
}
