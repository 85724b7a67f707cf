use Rattle.std.proofs.Common.{◌≡◌, None, length}
use Rattle.std.specs.List.{All}
use Rattle.uecp_lines.proofs.reply_lines.ReplyLines.new.Given as goal

-- so many are there, and none is written
abbrev pub invariant-loop-counter : goal.invariant-loop-counter
invariant-loop-counter l = record {
  many : length l.lines.items ≡ l._counter;
  unwritten : All (λ line. line.code ≡ None) l.lines.items;
}
